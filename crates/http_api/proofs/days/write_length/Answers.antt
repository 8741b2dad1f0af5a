use Rattle.std.proofs.Common.{codes}
use Rattle.std.specs.Prelude.{decimal}
use Rattle.std.proofs.lemmas.Result.{on_ok_weaker}
use Rattle.http_api.specs.JsonTexts.{bool_text}
use Rattle.http_api.proofs.TextLemmas.{four_joined}
use Rattle.http_api.proofs.days.write_length.Goals as goal

pub returns-clause-ok : goal.returns-clause-ok
returns-clause-ok c =
    on_ok_weaker c.push_number.result
    (λ told. four_joined c.args.out.now (codes ",\"estimated\":") (bool_text c.args.estimated) (codes ",\"length\":") (decimal c.args.seconds)
    c.push_slice.new.self c.write_flag.new.out c.push_slice-2.new.self c.push_number.new.self
    c.in_ok-push_slice.ensures.ok c.in_ok-write_flag.ensures.ok c.in_ok-push_slice-2.ensures.ok (rw c.from.ensures at told))
    c.push_number.ensures.ok
