use Rattle.std.proofs.Common.{◌≡◌, refl, sym, ap, subst, ◌∙◌, ◌≤◌, ℕ, true, false, ℤ, pos, min, arith, rules, to_z, w16, w32, FitsSigned}
use Rattle.std.proofs.lemmas.Int.{ints, to_z-of_z}
use Rattle.fixed_units.specs.Quantities.{IsDay}
use Rattle.jiff_core.specs.Calendar.{days_from_civil, days_in_month}
use Rattle.jiff_core.proofs.CalendarLemmas.{days_in_month_bounds}
use Rattle.water_year.proofs.CalendarLemmas.{date_is_day}
use Rattle.water_year.proofs.months.day_number.Goals as goal

-- the date is the one that was asked for
dated : (y k z : ℤ) (m n d e : ℕ) → y ≡ k → k ≡ z → n ≡ m → e ≡ min d (days_in_month k m) → d ≤ days_in_month z m → days_from_civil y n e ≡ days_from_civil z m d
dated y k z m n d e years known months days within =
    let most : d ≤ days_in_month k m = rw known within in
    let same : e ≡ d = omega (arith, days, most) in
    rw (years, known, months, same) refl

-- a day of the calendar has one
no_day : (told number is : ℤ) → told ≡ number → number ≡ is → IsDay is → (IsDay told → false ≡ true) → ⊥
no_day told number is bits same day none = cc (none (subst IsDay (sym (bits ∙ same)) day))

pub unreachable-requires : goal.unreachable-requires
unreachable-requires c =
    let is = date_is_day c.args.year c.args.month c.args.day c.requires.first c.requires.last c.requires.month c.requires.twelve c.requires.day c.requires.within in
    let year : to_z w16 c.args.year ≡ pos c.args.year = omega (arith, ints, c.requires.last) in
    let date = c.constrain-date.result in
    let made = dated date.year (to_z w16 c.args.year) (pos c.args.year) c.args.month date.month c.args.day date.day c.constrain-date.ensures.year year
    c.constrain-date.ensures.month c.constrain-date.ensures.day c.requires.within in
    let number = c.to_unix_epoch_day.ensures.value ∙ made in
    let fits : FitsSigned w32 c.to_unix_epoch_day.result = search rules in
    no_day _ c.to_unix_epoch_day.result _ (to_z-of_z w32 c.to_unix_epoch_day.result fits) number is c.in-None.ensures.range.1
