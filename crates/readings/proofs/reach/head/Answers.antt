-- The walk passes the readings before the number.
use Rattle.std.specs.Prelude.{int_lt}
use Rattle.std.proofs.Common.{rules, tests, ◌∙◌}
use Rattle.std.proofs.lemmas.Iterator.{YieldsList-from_slice}
use Rattle.std.proofs.lemmas.Iterator.Consumers.{count_from_yields_List}
use Rattle.std.proofs.lemmas.Iterator.Search.{YieldsList-from_take_while}
use Rattle.readings.proofs.Reaching.{head_is}
use Rattle.readings.proofs.reach.head.Goals as goal

pub returns : goal.returns
returns c =
    c.split_at.ensures.front
    ∙ head_is c.args.number c.args.list.now c.count-passed.result c.requires
    (count_from_yields_List _ c.count-passed.result c.count-passed.ensures.ran
    (YieldsList-from_take_while _ (λ r. int_lt r.at c.args.number) (YieldsList-from_slice c.args.list.now (cc)) c.take_while.ensures.closure c.take_while.ensures.done
    (λ x r q k. search (rules, tests))))
