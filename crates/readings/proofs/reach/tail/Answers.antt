-- The walk back passes the readings from the number on.
use Rattle.std.specs.Prelude.{int_le}
use Rattle.std.proofs.Common.{rules, tests, ◌∙◌}
use Rattle.std.proofs.lemmas.Iterator.Adapters.{YieldsList-from_rev_slice}
use Rattle.std.proofs.lemmas.Iterator.Consumers.{count_from_yields_List}
use Rattle.std.proofs.lemmas.Iterator.Search.{YieldsList-from_take_while}
use Rattle.readings.proofs.Reaching.{tail_is}
use Rattle.readings.proofs.reach.tail.Goals as goal

pub returns : goal.returns
returns c =
    c.split_at.ensures.back
    ∙ tail_is c.args.number c.args.list.now c.count-passed.result c.requires
    (count_from_yields_List _ c.count-passed.result c.count-passed.ensures.ran
    (YieldsList-from_take_while _ (λ r. int_le c.args.number r.at) (YieldsList-from_rev_slice c.args.list.now (cc)) c.take_while.ensures.closure c.take_while.ensures.done
    (λ x r q k. search (rules, tests))))
