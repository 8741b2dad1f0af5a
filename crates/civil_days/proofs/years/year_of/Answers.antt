use Rattle.std.proofs.Common.{◌≡◌, ◌∙◌, ap, refl, sym, arith, pos, ◌-ℤ◌, FitsSigned, w32, w64}
use Rattle.std.proofs.lemmas.Int.{to_z-of_z}
use Rattle.jiff_core.specs.Calendar.{days_in_year}
use Rattle.jiff_core.specs.Date.{epoch_day, ordinal}
use Rattle.jiff_core.proofs.CalendarLemmas.{days_in_year_bounds}
use Rattle.jiff_core.proofs.SignedLemmas.{signed_arith}
use Rattle.jiff_tz.proofs.YearLemmas.{back_year, year_of_day-date}
use Rattle.jiff_tz.specs.Year.{year_of_day}
use Rattle.civil_days.proofs.CalendarLemmas.{year_by_place, first_bits, next_bits}
use Rattle.civil_days.proofs.years.year_of.Goals as goal

pub returns-clause-number : goal.returns-clause-number
returns-clause-number c =
    let fits : FitsSigned w32 c.args.day = c.ranges.day in
    let wide : FitsSigned w64 c.args.day = omega (arith, signed_arith) in
    let from : c.from.result ≡ c.args.day = rw (to_z-of_z w32 c.args.day fits) at c.from.ensures in
    let date : epoch_day c.in-Ok.date ≡ c.args.day = rw (from, to_z-of_z w64 c.args.day wide) at c.in-Ok.ensures.value in
    rw (back_year c.in-Ok.date.year c.in-Ok.date.year_in) (sym (year_of_day-date c.in-Ok.date) ∙ ap year_of_day date)

pub invariant_of-result : goal.invariant_of-result
invariant_of-result c =
    let fits : FitsSigned w32 c.args.day = c.ranges.day in
    let wide : FitsSigned w64 c.args.day = omega (arith, signed_arith) in
    let from : c.from.result ≡ c.args.day = rw (to_z-of_z w32 c.args.day fits) at c.from.ensures in
    let date : epoch_day c.in-Ok.date ≡ c.args.day = rw (from, to_z-of_z w64 c.args.day wide) at c.in-Ok.ensures.value in
    let most = (days_in_year_bounds c.in-Ok.date.year).0 in
    let bound = c.day_of_year.ensures.bound in
    let place : c.from-in-Ok.result ≡ pos (ordinal c.in-Ok.date) = c.from-in-Ok.ensures ∙ ap pos c.day_of_year.ensures.value in
    let year = back_year c.in-Ok.date.year c.in-Ok.date.year_in in
    let days : c.from-in-Ok-2.result ≡ pos (days_in_year c.in-Ok.date.year) = c.from-in-Ok-2.ensures ∙ ap pos (c.days_in_year.ensures ∙ ap days_in_year year) in
    let ordinal_is = c.day_of_year.ensures.value in
    let first = first_bits c.args.day c.from-in-Ok.result (ordinal c.in-Ok.date) place (omega arith) (omega arith) c.requires.low c.requires.high in
    let next = next_bits (c.args.day -ℤ (pos (ordinal c.in-Ok.date) -ℤ pos 1)) c.from-in-Ok-2.result (days_in_year c.in-Ok.date.year) days most
    (omega (arith, signed_arith)) (omega (arith, signed_arith)) in
    record { is = rw (year, first, next) (year_by_place c.in-Ok.date c.args.day _ _ date refl refl c.requires.low c.requires.high) }

pub returns-clause-until : goal.returns-clause-until
returns-clause-until c =
    let most = (days_in_year_bounds c.in-Ok.date.year).0 in
    let bound = c.day_of_year.ensures.bound in
    let year = back_year c.in-Ok.date.year c.in-Ok.date.year_in in
    let days : c.from-in-Ok-2.result ≡ pos (days_in_year c.in-Ok.date.year) = c.from-in-Ok-2.ensures ∙ ap pos (c.days_in_year.ensures ∙ ap days_in_year year) in
    let first = first_bits c.args.day c.from-in-Ok.result c.day_of_year.result c.from-in-Ok.ensures bound.0 (omega arith) c.requires.low c.requires.high in
    let next = next_bits (c.args.day -ℤ (pos c.day_of_year.result -ℤ pos 1)) c.from-in-Ok-2.result (days_in_year c.in-Ok.date.year) days most
    (omega (arith, signed_arith)) (omega (arith, signed_arith)) in
    rw (first, next) (omega (arith, signed_arith))
