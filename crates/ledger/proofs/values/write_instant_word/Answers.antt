-- The parts stand one behind another.
use Rattle.std.proofs.Common.{[], ◌∷◌}
use Rattle.std.proofs.lemmas.Result.{on_ok_weaker}
use Rattle.civil_days.specs.Texts.{instant_text}
use Rattle.ledger.proofs.JoinLemmas.{three_joined}
use Rattle.ledger.proofs.values.write_instant_word.Goals as goal

pub returns : goal.returns
returns c =
    on_ok_weaker c.push-2.result
    (three_joined c.args.out.now c.push.new.self c.write_instant.new.out c.push-2.new.self (34 ∷ []) (instant_text c.args.at) (34 ∷ []) c.in_ok-push.ensures.ok c.in_ok-write_instant.ensures.text)
    c.push-2.ensures.ok
