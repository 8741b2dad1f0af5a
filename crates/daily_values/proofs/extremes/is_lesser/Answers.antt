-- What is kept stays the least, or the one behind it is.
use Rattle.std.proofs.Common.{◌≡◌, sym}
use Rattle.std.specs.Prelude.{is_some}
use Rattle.daily_values.specs.DayValue.{is_less, value_of}
use Rattle.daily_values.proofs.ExtremeLemmas.{is_more, more_order, more_from_none, more_from_some}
use Rattle.daily_values.proofs.extremes.is_lesser.Goals as goal

pub returns-in-Some : goal.returns-in-Some
returns-in-Some c = λ units e.
    let value = value_of c.args.quantity in
    let ahead : is_less (value c.args.unit.now) (value c.in-Some.kept) ≡ c.is_less.result = cc in
    more_from_some value is_more more_order units c.args.least.now c.in-Some.kept c.args.unit.now c.is_less.result c.in-Some.is e ahead

pub returns-in-None : goal.returns-in-None
returns-in-None c = λ units e.
    let value = value_of c.args.quantity in
    let valued : is_some (value c.args.unit.now) ≡ c.is_some.result = cc in
    more_from_none value is_more more_order units c.args.least.now c.args.unit.now c.is_some.result c.in-None.is e valued
