-- The walk passes the readings before the number.
use Rattle.std.specs.Prelude.{find, int_lt}
use Rattle.std.proofs.Common.{rules, tests, ap, sym, ◌∙◌}
use Rattle.std.proofs.lemmas.Iterator.{YieldsList-from_slice}
use Rattle.std.proofs.lemmas.Iterator.Adapters.{option_map_id}
use Rattle.std.proofs.lemmas.Iterator.Consumers.{YieldsList-from_copied}
use Rattle.std.proofs.lemmas.Iterator.Search.{YieldsList-from_take_while, find_from_yields_List}
use Rattle.readings.specs.Readings.{is_used}
use Rattle.readings.proofs.Reaching.{walked_on}
use Rattle.readings.proofs.used.first_used_before.Goals as goal

pub returns : goal.returns
returns c =
    sym (option_map_id c.find.result)
    ∙ find_from_yields_List is_used _ _ c.find.result c.find.ensures.ran
    (YieldsList-from_take_while _ (λ r. int_lt r.at c.args.number) (YieldsList-from_copied (YieldsList-from_slice c.args.list.now (cc))) c.take_while.ensures.closure c.take_while.ensures.done
    (λ x r q k. search (rules, tests)))
    (λ x r q k. search (rules, tests))
    ∙ ap (find is_used) (walked_on c.args.number c.args.list.now c.requires)
