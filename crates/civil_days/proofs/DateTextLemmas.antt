-- The parts of a date are those that its day number spells.
use Rattle.std.proofs.Common.{◌≡◌, ◌∙◌, ℕ, zero, suc, ◌+◌, ◌<◌, ◌≤◌, ◌⊎◌, inl, inr, Bool, true, false, ℤ, pos, ◌+ℤ◌, ◌-ℤ◌, ◌≤ℤ◌, ◌<ℤ◌, int_le, unsigned_abs, if◌then◌else◌, refl, sym, ap, subst, arith}
use Rattle.std.proofs.Math.Nat.{eq-or-lt_of_le}
use Rattle.std.proofs.lemmas.Int.{ints}
use Rattle.jiff.proofs.SpanFacts.{signed_arith}
use Rattle.jiff_core.proofs.CalendarLemmas.{day_count-lt_month}
use Rattle.jiff_core.proofs.DateLemmas.{civil, days_from_civil-day}
use Rattle.jiff_core.specs.Calendar.{days_from_civil, IsCivilDate}
use Rattle.jiff_core.specs.Date.{epoch_day}
use Rattle.jiff_core.specs.declared.civil.date.Date.{Date}
use Rattle.jiff_tz.proofs.YearLemmas.{year_of_day-date}
use Rattle.jiff_tz.specs.Year.{year_of_day}
use Rattle.civil_days.specs.Texts.{date_text, day_of_month, day_text, month_begun, month_of_day}

before : (a b c : ℕ) → a < b → (pos a -ℤ pos c) <ℤ (pos b -ℤ pos c)
before a b c h = omega (arith, signed_arith)

-- a later month begins later than any day of a month
later_month : (y : ℤ) (m d n : ℕ) → IsCivilDate y m d → m < n → days_from_civil y m d <ℤ days_from_civil y n 1
unfolding days_from_civil
later_month y m d n is less = before _ _ _ (day_count-lt_month y m d n 1 is (omega arith) less)

-- and a month not later than its days
own_month : (y : ℤ) (m d : ℕ) → 1 ≤ d → days_from_civil y m 1 ≤ℤ days_from_civil y m d
own_month y m d some = let shift = days_from_civil-day y m d 1 some (omega arith) in omega (arith, signed_arith, shift)

month_is : (y : ℤ) (m d n : ℕ) → IsCivilDate y m d → m ≤ n → month_begun y n (days_from_civil y m d) ≡ m
unfolding month_begun
month_is y m d zero is within = absurd (let low = is.1.0 in omega (arith, low, within))
month_is y m d (suc n) is within = by (int_le (days_from_civil y (suc n) 1) (days_from_civil y m d)) refl (eq-or-lt_of_le within) (month_is y m d n is)
  where
    by : (b : Bool) → int_le (days_from_civil y (suc n) 1) (days_from_civil y m d) ≡ b → (m ≡ suc n) ⊎ (m < suc n) → (m ≤ n → month_begun y n (days_from_civil y m d) ≡ m) → (if b then suc n else month_begun y n (days_from_civil y m d)) ≡ m
    by true e (inl same) further = sym same
    by true e (inr less) further = let later = later_month y m d (suc n) is less in absurd (omega (arith, ints, e, later))
    by false e (inl same) further =
        let own : days_from_civil y (suc n) 1 ≤ℤ days_from_civil y m d = subst (λ k. days_from_civil y k 1 ≤ℤ days_from_civil y m d) same (own_month y m d is.2.0) in
        absurd (omega (arith, ints, e, own))
    by false e (inr less) further = further (omega (arith, less))

-- a day is so many days behind the first of its month
behind : (a b : ℤ) (d : ℕ) → 1 ≤ d → a +ℤ pos 1 ≡ b +ℤ pos d → d ≡ unsigned_abs (a -ℤ b) + 1
behind a b zero some e = absurd (omega (arith, some))
behind a b (suc k) some e = let shift : a -ℤ b ≡ pos k = omega (arith, signed_arith, e) in let count : unsigned_abs (a -ℤ b) ≡ k = ap unsigned_abs shift in omega (arith, count)

pub date_spelled : (date : Date) (day : ℤ) → epoch_day date ≡ day → date_text (unsigned_abs date.year) date.month date.day ≡ day_text day
unfolding day_text
date_spelled date day is =
    let year : date.year ≡ year_of_day day = sym (ap year_of_day (sym is) ∙ year_of_day-date date) in
    let month : date.month ≡ month_of_day day =
    sym (month_is date.year date.month date.day 12 (civil date) date.month_in.1) ∙ ap (λ (y : ℤ). month_begun y 12 (epoch_day date)) year ∙ ap (month_begun (year_of_day day) 12) is in
    let shift = days_from_civil-day date.year date.month date.day 1 date.day_in.0 (omega arith) in
    let first : date.day ≡ unsigned_abs (epoch_day date -ℤ days_from_civil date.year date.month 1) + 1 = behind _ _ date.day date.day_in.0 shift in
    let number : date.day ≡ day_of_month day =
    first ∙ ap (λ (n : ℤ). unsigned_abs (n -ℤ days_from_civil date.year date.month 1) + 1) is
    ∙ ap (λ (y : ℤ). unsigned_abs (day -ℤ days_from_civil y date.month 1) + 1) year
    ∙ ap (λ (m : ℕ). unsigned_abs (day -ℤ days_from_civil (year_of_day day) m 1) + 1) month in
    ap (λ (y : ℤ). date_text (unsigned_abs y) date.month date.day) year
    ∙ ap (λ (m : ℕ). date_text (unsigned_abs (year_of_day day)) m date.day) month
    ∙ ap (date_text (unsigned_abs (year_of_day day)) (month_of_day day)) number
