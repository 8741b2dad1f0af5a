-- The days of dates.
use Rattle.std.proofs.Common.{◌≡◌, refl, sym, ◌∙◌, ℕ, ◌+◌, ◌≤◌, ℤ, pos, arith}
use Rattle.jiff_core.specs.Calendar.{IsCivilDate, days_from_civil, days_in_month, day_count}
use Rattle.jiff_core.proofs.CalendarLemmas.{day_count-last_of_year, day_count-lt_year, day_count-next_year, days_from_civil-day_count}
use Rattle.jiff_core.proofs.MarchLemmas.{day_count-early}
use Rattle.jiff_core.proofs.SignedLemmas.{signed_arith}
use Rattle.fixed_units.specs.Quantities.{IsDay}

-- the days of the years 1900 to 2099 are those of the calendar
pub date_is_day : (year month day : ℕ) → 1900 ≤ year → year ≤ 2099 → 1 ≤ month → month ≤ 12 → 1 ≤ day → day ≤ days_in_month (pos year) month
    → IsDay (days_from_civil (pos year) month day)
date_is_day year month day from until m twelve d within =
    let is : IsCivilDate (pos year) month day = ((omega (arith, signed_arith), omega (arith, signed_arith)), (m, twelve), (d, within)) in
    let here = days_from_civil-day_count (pos year) month day in
    let before = day_count-lt_year (pos 1899) 12 31 (pos year) month day ((omega (arith, signed_arith), omega (arith, signed_arith)), (omega arith, omega arith), (omega arith, omega arith)) d (omega (arith, signed_arith)) in
    let behind = day_count-lt_year (pos year) month day (pos 2100) 1 1 is (omega arith) (omega (arith, signed_arith)) in
    let century : day_count (pos 1900) 1 1 ≡ 4_346_386 = day_count-early (pos 1900) 11899 1 1 refl (omega arith) (omega arith) (omega arith) in
    let first : day_count (pos 1899) 12 31 + 1 ≡ day_count (pos 1900) 1 1 =
    day_count-last_of_year (pos 1899) ∙ sym (day_count-next_year (pos 1899) (pos 1900) (omega (arith, signed_arith)) refl) in
    let last : day_count (pos 2100) 1 1 ≡ 4_419_435 = day_count-early (pos 2100) 12099 1 1 refl (omega arith) (omega arith) (omega arith) in
    record {
      low = omega (arith, signed_arith);
      high = omega (arith, signed_arith);
    }
