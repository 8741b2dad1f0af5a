-- The days of a year, and the year of a day.
use Rattle.std.proofs.Common.{◌≡◌, ◌∙◌, ℕ, ◌+◌, ◌≤◌, ◌<◌, suc, ℤ, pos, negsuc, neg_ℤ, ◌+ℤ◌, ◌-ℤ◌, ◌≤ℤ◌, ◌<ℤ◌, unsigned_abs, refl, ap, arith, to_z, of_z, w32}
use Rattle.jiff_core.specs.Calendar.{days_in_year, days_of_years, day_count}
use Rattle.jiff_core.specs.Date.{epoch_day, ordinal}
use Rattle.jiff_core.specs.declared.civil.date.Date.{Date}
use Rattle.jiff_core.proofs.CalendarLemmas.{days_from_civil-day_count, day_count-day_of_year, day_of_year_bound, days_in_year_bounds, days_of_months-zero}
use Rattle.jiff_core.proofs.DateLemmas.{civil}
use Rattle.jiff_core.proofs.SignedLemmas.{signed_arith, signed_casts}
use Rattle.jiff_tz.proofs.YearLemmas.{years_within_is}
use Rattle.jiff_tz.specs.Year.{year_of_day}
use Rattle.fixed_units.specs.Quantities.{first_day}
use Rattle.civil_days.specs.Starts.{calendar_end}
use Rattle.civil_days.specs.Years.{IsCalendarYear}

-- the year that a date is in, by the date's place in it
pub year_by_place : (date : Date) (day first next : ℤ) → epoch_day date ≡ day → first ≡ day -ℤ (pos (ordinal date) -ℤ pos 1)
    → next ≡ first +ℤ pos (days_in_year date.year) → first_day ≤ℤ day → day ≤ℤ calendar_end → IsCalendarYear date.year first next
year_by_place date day first next e f g low high =
    let here = days_from_civil-day_count date.year date.month date.day in
    let start = days_from_civil-day_count date.year 1 1 in
    let one : 1 ≤ date.day = date.day_in.0 in
    let place = day_count-day_of_year date.year date.month date.day one in
    let most = day_of_year_bound date.year date.month date.day (civil date) in
    let days = days_in_year_bounds date.year in
    record {
      number_in = date.year_in;
      first_is = omega (arith, signed_arith);
      next_is = g;
      low = omega (arith, signed_arith);
      high = omega (arith, signed_arith);
    }

counted : (z : ℤ) → pos 0 ≤ℤ z → pos (unsigned_abs z) ≡ z
counted (pos n) h = refl
counted (negsuc n) h = absurd (omega (arith, signed_arith))

days_of_next : (n : ℕ) → days_of_years (suc n) ≡ days_of_years n + days_in_year (pos n -ℤ pos 10000)
unfolding days_of_years
days_of_next n = refl

first_count : (y : ℤ) → day_count y 1 1 ≡ days_of_years (unsigned_abs (y +ℤ pos 10000))
unfolding day_count
first_count y = omega (arith, days_of_months-zero y)

-- each day of a year is in that year
pub year_of_its_day : (y first next day : ℤ) → IsCalendarYear y first next → first ≤ℤ day → day <ℤ next → year_of_day day ≡ y
year_of_its_day y first next day is low high =
    let first_is = is.first_is in
    let next_is = is.next_is in
    let at_least = is.number_in.0 in
    let at_most = is.number_in.1 in
    let least = is.low in
    let start = days_from_civil-day_count y 1 1 in
    let years : ℕ = unsigned_abs (y +ℤ pos 10000) in
    let shifted : pos years ≡ y +ℤ pos 10000 = counted (y +ℤ pos 10000) (omega (arith, signed_arith)) in
    let this_year : pos years -ℤ pos 10000 ≡ y = omega (arith, signed_arith) in
    let step = days_of_next years in
    let days : days_in_year (pos years -ℤ pos 10000) ≡ days_in_year y = ap days_in_year this_year in
    let count : day_count y 1 1 ≡ days_of_years years = first_count y in
    let total : pos (unsigned_abs (day +ℤ pos 4_371_953)) ≡ day +ℤ pos 4_371_953 = counted (day +ℤ pos 4_371_953) (omega (arith, signed_arith)) in
    let some_years : years ≤ 20000 = omega (arith, signed_arith) in
    let from : days_of_years years ≤ unsigned_abs (day +ℤ pos 4_371_953) = omega (arith, signed_arith) in
    let until : unsigned_abs (day +ℤ pos 4_371_953) < days_of_years (suc years) = omega (arith, signed_arith) in
    ap (λ k. pos k -ℤ pos 10000) (years_within_is 20000 years (unsigned_abs (day +ℤ pos 4_371_953)) some_years from until) ∙ this_year

-- the first day of a year and that of the next one, without their bits
pub first_bits : (day from : ℤ) (place : ℕ) → from ≡ pos place → 1 ≤ place → place ≤ 366 → first_day ≤ℤ day → day ≤ℤ calendar_end
    → to_z w32 (of_z w32 (to_z w32 (of_z w32 day) -ℤ to_z w32 (of_z w32 (to_z w32 (of_z w32 from) -ℤ pos 1)))) ≡ day -ℤ (pos place -ℤ pos 1)
first_bits day from place e least most low high = omega (arith, signed_casts)

pub next_bits : (first from : ℤ) (days : ℕ) → from ≡ pos days → days ≤ 366 → neg_ℤ (pos 30_000) ≤ℤ first → first ≤ℤ pos 50_000
    → to_z w32 (of_z w32 (first +ℤ to_z w32 (of_z w32 from))) ≡ first +ℤ pos days
next_bits first from days e most low high = omega (arith, signed_casts)
