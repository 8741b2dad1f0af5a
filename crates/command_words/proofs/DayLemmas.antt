-- Each day of the calendar has a text, and so has each stamp.
use Rattle.std.proofs.Common.{◌≡◌, ◌∙◌, ℕ, zero, suc, ◌+◌, ◌-◌, ◌*◌, ◌/◌, ◌%◌, ◌<◌, ◌≤◌, ◌&&◌, ◌⊎◌, inl, inr, Bool, true, nat_le, List, ◌++◌, ℤ, pos, neg_ℤ, negsuc, ◌≤ℤ◌, ◌<ℤ◌, ◌+ℤ◌, ◌*ℤ◌, unsigned_abs, Option, Some, refl, sym, ap, subst, arith}
use Rattle.std.proofs.Math.Nat.{eq-or-lt_of_le}
use Rattle.std.proofs.lemmas.Bool.Decides.{nat_tests}
use Rattle.std.proofs.lemmas.Int.{ints}
use Rattle.std.specs.Int.{int_div_euclid, int_rem_euclid}
use Rattle.civil_days.proofs.SpellingLemmas.{parts_of, spelled_instant}
use Rattle.civil_days.specs.Spelling.{date_number, date_of_text, day_of_text, instant_of_text, is_date, moment_of, only, stamp_of_text}
use Rattle.civil_days.specs.Starts.{digit_pair}
use Rattle.civil_days.specs.Texts.{clock_text, date_text}
use Rattle.fixed_units.specs.Quantities.{IsDay, IsStamp, is_day, is_stamp}
use Rattle.jiff.proofs.SpanFacts.{signed_arith}
use Rattle.jiff_core.proofs.CalendarLemmas.{days_from_civil-day_count, days_in_month_bounds}
use Rattle.jiff_core.proofs.DateLemmas.{days_from_civil-day, days_from_civil-max, days_from_civil-next_month, days_from_civil-next_year}
use Rattle.jiff_core.proofs.MarchLemmas.{day_count-early}
use Rattle.jiff_core.specs.Calendar.{day_count, days_from_civil, days_in_month}

-- a date of the calendar that has this number
record IsDated (day : ℤ) : Type 0 where
  pub year : ℕ
  pub month : ℕ
  pub date : ℕ
  pub year_in : year ≤ 9999
  pub month_from : 1 ≤ month
  pub month_to : month ≤ 12
  pub date_from : 1 ≤ date
  pub date_to : date ≤ days_in_month (pos year) month
  pub number : days_from_civil (pos year) month date ≡ day

count_1900 : day_count (pos 1900) 1 1 ≡ 4_346_386
count_1900 = day_count-early (pos 1900) 11899 1 1 refl (omega arith) (omega arith) (omega arith)

first_dated : IsDated (neg_ℤ (pos 25_567))
first_dated = record {
  year = 1900;
  month = 1;
  date = 1;
  year_in = omega arith;
  month_from = omega arith;
  month_to = omega arith;
  date_from = omega arith;
  date_to = omega arith;
  number = omega (arith, signed_arith, days_from_civil-day_count (pos 1900) 1 1, count_1900);
}

later_date : (day next : ℤ) (d : IsDated day) → next ≡ day +ℤ pos 1 → d.date < days_in_month (pos d.year) d.month → IsDated next
later_date day next d is less =
    let shift = days_from_civil-day (pos d.year) d.month d.date (d.date + 1) d.date_from (omega arith) in
    let same = d.number in record {
      year = d.year;
      month = d.month;
      date = d.date + 1;
      year_in = d.year_in;
      month_from = d.month_from;
      month_to = d.month_to;
      date_from = omega arith;
      date_to = omega (arith, less);
      number = omega (arith, signed_arith, shift, same, is);
    }

later_month : (day next : ℤ) (d : IsDated day) → next ≡ day +ℤ pos 1 → d.date ≡ days_in_month (pos d.year) d.month → d.month < 12 → IsDated next
later_month day next d is last less =
    let step = days_from_civil-next_month (pos d.year) d.month d.date d.month_from last in
    let long = days_in_month_bounds (pos d.year) (d.month + 1) in record {
      year = d.year;
      month = d.month + 1;
      date = 1;
      year_in = d.year_in;
      month_from = omega arith;
      month_to = omega (arith, less);
      date_from = omega arith;
      date_to = omega (arith, long.1);
      number = step ∙ ap (λ (n : ℤ). n +ℤ pos 1) d.number ∙ sym is;
    }

later_year : (day next : ℤ) (d : IsDated day) → next ≡ day +ℤ pos 1 → d.date ≡ days_in_month (pos d.year) d.month → d.month ≡ 12 → day <ℤ pos 47_481 → IsDated next
later_year day next d is last month less =
    let date : d.date ≡ 31 = last ∙ ap (days_in_month (pos d.year)) month in
    let number : days_from_civil (pos d.year) 12 31 ≡ day =
    sym (ap (λ (m : ℕ). days_from_civil (pos d.year) m d.date) month ∙ ap (days_from_civil (pos d.year) 12) date) ∙ d.number in
    let step = days_from_civil-next_year (pos d.year) (pos (d.year + 1)) (omega (arith, signed_arith)) (omega (arith, signed_arith)) in record {
      year = d.year + 1;
      month = 1;
      date = 1;
      year_in = by (eq-or-lt_of_le d.year_in) number;
      month_from = omega arith;
      month_to = omega arith;
      date_from = omega arith;
      date_to = omega arith;
      number = step ∙ ap (λ (n : ℤ). n +ℤ pos 1) number ∙ sym is;
    }
  where
    by : (d.year ≡ 9999) ⊎ (d.year < 9999) → days_from_civil (pos d.year) 12 31 ≡ day → d.year + 1 ≤ 9999
    by (inl last) number =
        let most : days_from_civil (pos 9999) 12 31 ≡ day = sym (ap (λ (y : ℕ). days_from_civil (pos y) 12 31) last) ∙ number in
        absurd (omega (arith, signed_arith, most, days_from_civil-max, less))
    by (inr less) number = omega (arith, less)

next_dated : (day next : ℤ) → IsDated day → next ≡ day +ℤ pos 1 → day <ℤ pos 47_481 → IsDated next
next_dated day next d is less = by (eq-or-lt_of_le d.date_to) (eq-or-lt_of_le d.month_to)
  where
    by : (d.date ≡ days_in_month (pos d.year) d.month) ⊎ (d.date < days_in_month (pos d.year) d.month) → (d.month ≡ 12) ⊎ (d.month < 12) → IsDated next
    by (inl last) (inl month) = later_year day next d is last month less
    by (inl last) (inr month) = later_month day next d is last month
    by (inr within) month = later_date day next d is within

dated_by : (n : ℕ) (day : ℤ) → day +ℤ pos 25_567 ≡ pos n → n ≤ 73_048 → IsDated day
dated_by zero day is few =
    let first : neg_ℤ (pos 25_567) ≡ day = omega (arith, signed_arith, is) in
    subst IsDated first first_dated
dated_by (suc n) day is few =
    let before : ℤ = pos n +ℤ neg_ℤ (pos 25_567) in
    let shift : before +ℤ pos 25_567 ≡ pos n = omega (arith, signed_arith) in
    next_dated before day (dated_by n before shift (omega (arith, few))) (omega (arith, signed_arith, is)) (omega (arith, signed_arith, few))

nonnegative : (n : ℤ) → pos 0 ≤ℤ n → n ≡ pos (unsigned_abs n)
nonnegative (pos n) h = refl
nonnegative (negsuc n) h = absurd (omega (arith, signed_arith))

dated : (day : ℤ) → IsDay day → IsDated day
dated day is =
    let low = is.low in
    let high = is.high in
    let from : day +ℤ pos 25_567 ≡ pos (unsigned_abs (day +ℤ pos 25_567)) = nonnegative (day +ℤ pos 25_567) (omega (arith, signed_arith)) in
    dated_by (unsigned_abs (day +ℤ pos 25_567)) day from (omega (arith, signed_arith, from))

-- two digits are read as their number
pair_read : (n : ℕ) → n ≤ 99 → digit_pair (48 + n / 10) (48 + n % 10) ≡ Some n
pair_read n few =
    let passes : (nat_le 48 (48 + n / 10) && nat_le (48 + n / 10) 57 && (nat_le 48 (48 + n % 10) && nat_le (48 + n % 10) 57)) ≡ true = grind (arith, nat_tests) in
    let value : (48 + n / 10 - 48) * 10 + (48 + n % 10 - 48) ≡ n = omega arith in
    rw passes (ap Some value)

number_read : (day : ℤ) (d : IsDated day) → date_number d.year d.month d.date ≡ Some day
number_read day d =
    let passes : is_date d.year d.month d.date ≡ true = grind (arith, nat_tests, d.month_from, d.month_to, d.date_from, d.date_to) in
    rw passes (ap Some d.number)

date_read : (year month date : ℕ) → year ≤ 9999 → month ≤ 99 → date ≤ 99 → date_of_text (date_text year month date) ≡ date_number year month date
date_read year month date y m d =
    let whole : year / 100 * 100 + year % 100 ≡ year = omega arith in
    rw (pair_read (year / 100) (omega arith), pair_read (year % 100) (omega arith), pair_read month m, pair_read date d)
    (ap (λ (n : ℕ). date_number n month date) whole)

kept : (kind : ℤ → Bool) (n : ℤ) → kind n ≡ true → only kind (Some n) ≡ Some n
kept kind n passes = rw passes refl

pub day_written : (day : ℤ) → IsDay day → (text : List ℕ) × (day_of_text text ≡ Some day)
day_written day is =
    let d = dated day is in
    let long = days_in_month_bounds (pos d.year) d.month in
    let few : d.date ≤ 99 = omega (arith, long.0, d.date_to) in
    let low = is.low in
    let high = is.high in
    let passes : is_day day ≡ true = grind (arith, ints) in
    let read = date_read d.year d.month d.date d.year_in (omega (arith, d.month_to)) few ∙ number_read day d in
    (date_text d.year d.month d.date, ap (only is_day) read ∙ kept is_day day passes)

instant_read : (year month date second : ℕ) → year ≤ 9999 → month ≤ 99 → date ≤ 99 → second < 86_400
    → instant_of_text (date_text year month date ++ clock_text second) ≡ moment_of (date_number year month date) (Some second)
instant_read year month date second y m d less =
    spelled_instant _ _ _ _ _ _ _ year month date second (pair_read (year / 100) (omega arith)) (pair_read (year % 100) (omega arith)) (pair_read month m) (pair_read date d)
    (pair_read (second / 3600) (omega arith)) (pair_read (second / 60 % 60) (omega arith)) (pair_read (second % 60) (omega arith)) less

written_by : (instant day : ℤ) (second : ℕ) → IsDated day → second < 86_400 → day *ℤ pos 86_400 +ℤ pos second ≡ instant → is_stamp instant ≡ true
    → (text : List ℕ) × (stamp_of_text text ≡ Some instant)
written_by instant day second d below sum passes =
    let long = days_in_month_bounds (pos d.year) d.month in
    let few : d.date ≤ 99 = omega (arith, long.0, d.date_to) in
    let read = instant_read d.year d.month d.date second d.year_in (omega (arith, d.month_to)) few below
    ∙ ap (λ (n : Option ℤ). moment_of n (Some second)) (number_read day d) ∙ ap Some sum in
    (date_text d.year d.month d.date ++ clock_text second, ap (only is_stamp) read ∙ kept is_stamp instant passes)

pub stamp_written : (instant : ℤ) → IsStamp instant → (text : List ℕ) × (stamp_of_text text ≡ Some instant)
stamp_written instant is =
    let low = is.low in
    let high = is.high in
    let parts = parts_of instant (record { low = omega (arith, signed_arith); high = omega (arith, signed_arith) }) in
    let sum = parts.3 in
    let below = parts.2 in
    let passes : is_stamp instant ≡ true = grind (arith, ints) in
    written_by instant (int_div_euclid instant (pos 86_400)) (unsigned_abs (int_rem_euclid instant (pos 86_400)))
    (dated (int_div_euclid instant (pos 86_400)) (record { low = omega (arith, signed_arith, sum, below); high = omega (arith, signed_arith, sum, below) }))
    below sum passes
