-- The walk back passes the readings from the number on.
use Rattle.std.specs.Prelude.{find, int_le}
use Rattle.std.proofs.Common.{rules, tests, ap, sym, ◌∙◌}
use Rattle.std.proofs.lemmas.Iterator.Adapters.{YieldsList-from_rev_slice, option_map_id}
use Rattle.std.proofs.lemmas.Iterator.Consumers.{YieldsList-from_copied}
use Rattle.std.proofs.lemmas.Iterator.Search.{YieldsList-from_take_while, find_from_yields_List}
use Rattle.readings.specs.Readings.{is_used}
use Rattle.readings.proofs.Reaching.{walked_back}
use Rattle.readings.proofs.used.last_used_from.Goals as goal

pub returns : goal.returns
returns c =
    sym (option_map_id c.find.result)
    ∙ find_from_yields_List is_used _ _ c.find.result c.find.ensures.ran
    (YieldsList-from_take_while _ (λ r. int_le c.args.number r.at) (YieldsList-from_copied (YieldsList-from_rev_slice c.args.list.now (cc))) c.take_while.ensures.closure c.take_while.ensures.done
    (λ x r q k. search (rules, tests)))
    (λ x r q k. search (rules, tests))
    ∙ ap (find is_used) (walked_back c.args.number c.args.list.now c.requires)
