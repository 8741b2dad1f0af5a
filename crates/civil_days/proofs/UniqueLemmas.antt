-- What is read of a day or of an instant fixes the text.
use Rattle.std.proofs.Common.{◌≡◌, ◌∙◌, inl, inr, ap, ℕ, ◌+◌, ◌-◌, ◌*◌, ◌<◌, ◌≤◌, ◌&&◌, ◌==◌, Bool, true, false, cond, nat_le, ℤ, pos, ◌+ℤ◌, ◌*ℤ◌, List, length, get_or, Option, Some, None, refl, sym, arith, eqb-true}
use Rattle.std.specs.Char.{is_ascii_digit}
use Rattle.std.proofs.lemmas.Bool.{and_parts, cases_order}
use Rattle.fixed_units.specs.Quantities.{is_day, is_stamp}
use Rattle.std.proofs.lemmas.Bool.Decides.{nat_tests}
use Rattle.std.proofs.lemmas.List.{ext_get_or}
use Rattle.std.proofs.lemmas.Option.{cond_some}
use Rattle.jiff.proofs.SpanFacts.{signed_arith}
use Rattle.jiff_core.specs.Calendar.{days_in_month, days_from_civil}
use Rattle.jiff_core.specs.declared.civil.date.Date.{Date}
use Rattle.jiff_core.proofs.DateLemmas.{epoch_day_injective}
use Rattle.civil_days.specs.Starts.{digit_pair, two_digits}
use Rattle.civil_days.specs.Spelling.{is_date, date_number, date_of, date_at, clock_of, clock_at, moment_of, only, date_of_text, day_of_text, instant_of_text, stamp_of_text, IsUnique}

digits : (tens ones : ℕ) → (is_ascii_digit tens && is_ascii_digit ones) ≡ true → (48 ≤ tens) × (tens ≤ 57) × (48 ≤ ones) × (ones ≤ 57)
digits tens ones h = grind (arith, nat_tests, and_parts)

digits_by : (a b c d n : ℕ) → (48 ≤ a) × (a ≤ 57) × (48 ≤ b) × (b ≤ 57) → (48 ≤ c) × (c ≤ 57) × (48 ≤ d) × (d ≤ 57)
    → (a - 48) * 10 + (b - 48) ≡ n → (c - 48) * 10 + (d - 48) ≡ n → (a ≡ c) × (b ≡ d)
digits_by a b c d n h k e f = (omega arith, omega arith)

-- the digits of one number are the same
pair_is : (a b c d n : ℕ) → digit_pair a b ≡ Some n → digit_pair c d ≡ Some n → (a ≡ c) × (b ≡ d)
pair_is a b c d n e f =
    let first = cond_some (is_ascii_digit a && is_ascii_digit b) ((a - 48) * 10 + (b - 48)) n e in
    let second = cond_some (is_ascii_digit c && is_ascii_digit d) ((c - 48) * 10 + (d - 48)) n f in
    digits_by a b c d n (digits a b first.0) (digits c d second.0) first.1 second.1

pair_small_by : (a b n : ℕ) → (48 ≤ a) × (a ≤ 57) × (48 ≤ b) × (b ≤ 57) → (a - 48) * 10 + (b - 48) ≡ n → n ≤ 99
pair_small_by a b n h e = omega arith

-- two digits write a number below a hundred
pair_small : (a b n : ℕ) → digit_pair a b ≡ Some n → n ≤ 99
pair_small a b n e =
    let first = cond_some (is_ascii_digit a && is_ascii_digit b) ((a - 48) * 10 + (b - 48)) n e in
    pair_small_by a b n (digits a b first.0) first.1

in_date : (year month day : ℕ) → is_date year month day ≡ true → (1 ≤ month) × (month ≤ 12) × (1 ≤ day) × (day ≤ days_in_month (pos year) month)
in_date year month day h =
    let parts = and_parts (nat_le 1 month && nat_le month 12) (nat_le 1 day && nat_le day (days_in_month (pos year) month)) h in
    let months = and_parts (nat_le 1 month) (nat_le month 12) parts.0 in
    let days = and_parts (nat_le 1 day) (nat_le day (days_in_month (pos year) month)) parts.1 in
    (grind (arith, nat_tests), grind (arith, nat_tests), grind (arith, nat_tests), grind (arith, nat_tests))

dated : (year month day : ℕ) → year ≤ 9999 → (1 ≤ month) × (month ≤ 12) × (1 ≤ day) × (day ≤ days_in_month (pos year) month) → Date
dated y m d h k = record {
  year = pos y;
  month = m;
  day = d;
  year_in = (omega (arith, signed_arith), omega (arith, signed_arith));
  month_in = (k.0, k.1);
  day_in = (k.2, k.3);
}

-- a day number is of one date
date_is : (y m d year month day : ℕ) (n : ℤ) → y ≤ 9999 → year ≤ 9999 → date_number y m d ≡ Some n → date_number year month day ≡ Some n
    → (y ≡ year) × (m ≡ month) × (d ≡ day)
unfolding dated
date_is y m d year month day n h k e f =
    let first = cond_some (is_date y m d) (days_from_civil (pos y) m d) n e in
    let second = cond_some (is_date year month day) (days_from_civil (pos year) month day) n f in
    let same = epoch_day_injective (dated y m d h (in_date y m d first.0)) (dated year month day k (in_date year month day second.0)) (first.1 ∙ sym second.1) in
    let years : y ≡ year = grind (arith, signed_arith, same.0) in
    (years, same.1, same.2)

abbrev Dated : Option ℕ → Option ℕ → Option ℕ → Option ℕ → ℤ → Type 0
Dated a b c d n = (century year month day : ℕ) × (a ≡ Some century) × (b ≡ Some year) × (c ≡ Some month) × (d ≡ Some day)
    × (date_number (century * 100 + year) month day ≡ Some n)

-- a date that was read had all its digits
date_parts : (a b c d : Option ℕ) (n : ℤ) → date_of a b c d ≡ Some n → Dated a b c d n
date_parts None b c d n e = absurd cc
date_parts (Some century) None c d n e = absurd cc
date_parts (Some century) (Some year) None d n e = absurd cc
date_parts (Some century) (Some year) (Some month) None n e = absurd cc
date_parts (Some century) (Some year) (Some month) (Some day) n e = (century, year, month, day, refl, refl, refl, refl, e)

abbrev Timed : Option ℕ → Option ℕ → Option ℕ → ℕ → Type 0
Timed a b c n = (hours minutes seconds : ℕ) × (a ≡ Some hours) × (b ≡ Some minutes) × (c ≡ Some seconds)
    × (hours ≤ 23) × (minutes ≤ 59) × (seconds ≤ 59) × (hours * 3600 + minutes * 60 + seconds ≡ n)

in_time : (h m s : ℕ) → (nat_le h 23 && (nat_le m 59 && nat_le s 59)) ≡ true → (h ≤ 23) × (m ≤ 59) × (s ≤ 59)
in_time h m s e = (grind (arith, nat_tests, and_parts), grind (arith, nat_tests, and_parts), grind (arith, nat_tests, and_parts))

-- a time that was read had all its digits
clock_parts : (a b c : Option ℕ) (n : ℕ) → clock_of a b c ≡ Some n → Timed a b c n
clock_parts None b c n e = absurd cc
clock_parts (Some hours) None c n e = absurd cc
clock_parts (Some hours) (Some minutes) None n e = absurd cc
clock_parts (Some hours) (Some minutes) (Some seconds) n e =
    let is = cond_some (nat_le hours 23 && (nat_le minutes 59 && nat_le seconds 59)) (hours * 3600 + minutes * 60 + seconds) n e in
    let small = in_time hours minutes seconds is.0 in
    (hours, minutes, seconds, refl, refl, refl, small.0, small.1, small.2, is.1)

moment_parts : (d : Option ℤ) (s : Option ℕ) (n : ℤ) → moment_of d s ≡ Some n
    → (day : ℤ) × (second : ℕ) × (d ≡ Some day) × (s ≡ Some second) × (day *ℤ pos 86_400 +ℤ pos second ≡ n)
moment_parts None s n e = absurd cc
moment_parts (Some day) None n e = absurd cc
moment_parts (Some day) (Some second) n e = (day, second, refl, refl, (cond_some true (day *ℤ pos 86_400 +ℤ pos second) n e).1)

opened : {X : Type 0} (t : Bool) (o : Option X) (x : X) → cond t o None ≡ Some x → (t ≡ true) × (o ≡ Some x)
opened true o x e = (refl, e)
opened false o x e = absurd cc

same_century : (a b c d : ℕ) → b ≤ 99 → d ≤ 99 → a * 100 + b ≡ c * 100 + d → (a ≡ c) × (b ≡ d)
same_century a b c d h k e = (omega arith, omega arith)

abbrev IsSame : List ℕ → List ℕ → ℕ → Type 0
IsSame one other i = get_or one i 0 ≡ get_or other i 0

-- the digits at a place that write one number
pair_at : (one other : List ℕ) (at n m : ℕ) → two_digits one at ≡ Some n → two_digits other at ≡ Some m → n ≡ m → IsSame one other at × IsSame one other (at + 1)
pair_at one other at n m e f same =
    pair_is (get_or one at 0) (get_or one (at + 1) 0) (get_or other at 0) (get_or other (at + 1) 0) m (e ∙ ap Some same) f

mark_at : (one other : List ℕ) (at mark : ℕ) → (get_or one at 0 == mark) ≡ true → (get_or other at 0 == mark) ≡ true → IsSame one other at
mark_at one other at mark e f = eqb-true _ _ e ∙ sym (eqb-true _ _ f)

-- the first ten bytes of two texts of one date are the same
dates_same : (one other : List ℕ) (n : ℤ) → date_at one ≡ Some n → date_at other ≡ Some n
    → IsSame one other 0 × IsSame one other 1 × IsSame one other 2 × IsSame one other 3 × IsSame one other 4
    × IsSame one other 5 × IsSame one other 6 × IsSame one other 7 × IsSame one other 8 × IsSame one other 9
dates_same one other n e f =
    let first = opened ((get_or one 4 0 == 45) && (get_or one 7 0 == 45)) (date_of (two_digits one 0) (two_digits one 2) (two_digits one 5) (two_digits one 8)) n e in
    let second = opened ((get_or other 4 0 == 45) && (get_or other 7 0 == 45)) (date_of (two_digits other 0) (two_digits other 2) (two_digits other 5) (two_digits other 8)) n f in
    let dashes = and_parts (get_or one 4 0 == 45) (get_or one 7 0 == 45) first.0 in
    let others = and_parts (get_or other 4 0 == 45) (get_or other 7 0 == 45) second.0 in
    let a = date_parts (two_digits one 0) (two_digits one 2) (two_digits one 5) (two_digits one 8) n first.1 in
    let b = date_parts (two_digits other 0) (two_digits other 2) (two_digits other 5) (two_digits other 8) n second.1 in
    let a_century : a.0 ≤ 99 = pair_small (get_or one 0 0) (get_or one 1 0) a.0 a.4 in
    let b_century : b.0 ≤ 99 = pair_small (get_or other 0 0) (get_or other 1 0) b.0 b.4 in
    let a_year : a.1 ≤ 99 = pair_small (get_or one 2 0) (get_or one 3 0) a.1 a.5 in
    let b_year : b.1 ≤ 99 = pair_small (get_or other 2 0) (get_or other 3 0) b.1 b.5 in
    let is = date_is (a.0 * 100 + a.1) a.2 a.3 (b.0 * 100 + b.1) b.2 b.3 n (omega arith) (omega arith) a.8 b.8 in
    let years = same_century a.0 a.1 b.0 b.1 a_year b_year is.0 in
    let century = pair_at one other 0 a.0 b.0 a.4 b.4 years.0 in
    let year = pair_at one other 2 a.1 b.1 a.5 b.5 years.1 in
    let month = pair_at one other 5 a.2 b.2 a.6 b.6 is.1 in
    let day = pair_at one other 8 a.3 b.3 a.7 b.7 is.2 in
    (century.0, century.1, year.0, year.1, mark_at one other 4 45 dashes.0 others.0, month.0, month.1, mark_at one other 7 45 dashes.1 others.1, day.0, day.1)

same_time : (h m s i j k : ℕ) → m ≤ 59 → s ≤ 59 → j ≤ 59 → k ≤ 59 → h * 3600 + m * 60 + s ≡ i * 3600 + j * 60 + k → (h ≡ i) × (m ≡ j) × (s ≡ k)
same_time h m s i j k a b c d e = (omega arith, omega arith, omega arith)

marks : (a b c d : Bool) → (a && b && (c && d)) ≡ true → (a ≡ true) × (b ≡ true) × (c ≡ true) × (d ≡ true)
marks true true true true e = (refl, refl, refl, refl)
marks true true true false e = absurd cc
marks true true false d e = absurd cc
marks true false c d e = absurd cc
marks false b c d e = absurd cc

-- so are the other ten of two texts of one time
times_same : (one other : List ℕ) (n : ℕ) → clock_at one ≡ Some n → clock_at other ≡ Some n
    → IsSame one other 10 × IsSame one other 11 × IsSame one other 12 × IsSame one other 13 × IsSame one other 14
    × IsSame one other 15 × IsSame one other 16 × IsSame one other 17 × IsSame one other 18 × IsSame one other 19
times_same one other n e f =
    let first = opened ((get_or one 10 0 == 84) && (get_or one 13 0 == 58) && ((get_or one 16 0 == 58) && (get_or one 19 0 == 90))) (clock_of (two_digits one 11) (two_digits one 14) (two_digits one 17)) n e in
    let second = opened ((get_or other 10 0 == 84) && (get_or other 13 0 == 58) && ((get_or other 16 0 == 58) && (get_or other 19 0 == 90))) (clock_of (two_digits other 11) (two_digits other 14) (two_digits other 17)) n f in
    let ones = marks (get_or one 10 0 == 84) (get_or one 13 0 == 58) (get_or one 16 0 == 58) (get_or one 19 0 == 90) first.0 in
    let others = marks (get_or other 10 0 == 84) (get_or other 13 0 == 58) (get_or other 16 0 == 58) (get_or other 19 0 == 90) second.0 in
    let a = clock_parts (two_digits one 11) (two_digits one 14) (two_digits one 17) n first.1 in
    let b = clock_parts (two_digits other 11) (two_digits other 14) (two_digits other 17) n second.1 in
    let is = same_time a.0 a.1 a.2 b.0 b.1 b.2 a.7 a.8 b.7 b.8 (a.9 ∙ sym b.9) in
    let hours = pair_at one other 11 a.0 b.0 a.3 b.3 is.0 in
    let minutes = pair_at one other 14 a.1 b.1 a.4 b.4 is.1 in
    let seconds = pair_at one other 17 a.2 b.2 a.5 b.5 is.2 in (
      mark_at one other 10 84 ones.0 others.0,
      hours.0,
      hours.1,
      mark_at one other 13 58 ones.1 others.1,
      minutes.0,
      minutes.1,
      mark_at one other 16 58 ones.2 others.2,
      seconds.0,
      seconds.1,
      mark_at one other 19 90 ones.3 others.3,
    )

more : (one other : List ℕ) (n m : ℕ) → m ≡ n + 1 → ((i : ℕ) → i < n → IsSame one other i) → IsSame one other n → (i : ℕ) → i < m → IsSame one other i
more one other n m e below at i h =
    elim (cases_order i n) [
      | inl same ↦ rw same at
      | inr (inl less) ↦ below i less
      | inr (inr greater) ↦ absurd (omega arith)
    ]

tens : (one other : List ℕ) (n : ℕ) → ((i : ℕ) → i < n → IsSame one other i)
    → IsSame one other n × IsSame one other (n + 1) × IsSame one other (n + 2) × IsSame one other (n + 3) × IsSame one other (n + 4)
    × IsSame one other (n + 5) × IsSame one other (n + 6) × IsSame one other (n + 7) × IsSame one other (n + 8) × IsSame one other (n + 9)
    → (i : ℕ) → i < n + 10 → IsSame one other i
tens one other n below s =
    let first = more one other n (n + 1) refl below s.0 in
    let second = more one other (n + 1) (n + 2) (omega arith) first s.1 in
    let third = more one other (n + 2) (n + 3) (omega arith) second s.2 in
    let fourth = more one other (n + 3) (n + 4) (omega arith) third s.3 in
    let fifth = more one other (n + 4) (n + 5) (omega arith) fourth s.4 in
    let sixth = more one other (n + 5) (n + 6) (omega arith) fifth s.5 in
    let seventh = more one other (n + 6) (n + 7) (omega arith) sixth s.6 in
    let eighth = more one other (n + 7) (n + 8) (omega arith) seventh s.7 in
    let ninth = more one other (n + 8) (n + 9) (omega arith) eighth s.8 in
    more one other (n + 9) (n + 10) (omega arith) ninth s.9

none_yet : (one other : List ℕ) (i : ℕ) → i < 0 → IsSame one other i
none_yet one other i h = absurd (omega arith)

date_tens : (one other : List ℕ) (n : ℤ) → date_at one ≡ Some n → date_at other ≡ Some n → (i : ℕ) → i < 10 → IsSame one other i
date_tens one other n e f = tens one other 0 (none_yet one other) (dates_same one other n e f)

of_length : (text : List ℕ) (many : ℕ) (o : Option ℤ) (n : ℤ) → cond (length text == many) o None ≡ Some n → (length text ≡ many) × (o ≡ Some n)
of_length text many o n e =
    let parts = opened (length text == many) o n e in
    (eqb-true _ _ parts.0, parts.1)

alike : (one other : List ℕ) (many : ℕ) → length one ≡ many → length other ≡ many → ((i : ℕ) → i < many → IsSame one other i) → one ≡ other
alike one other many e f same = ext_get_or 0 one other (e ∙ sym f) (λ i h. same i (omega (arith, e)))

only_parts : (kind : ℤ → Bool) (o : Option ℤ) (n : ℤ) → only kind o ≡ Some n → o ≡ Some n
only_parts kind None n e = absurd cc
only_parts kind (Some m) n e = ap Some (cond_some (kind m) m n e).1

pub days_unique : IsUnique day_of_text
days_unique one other n e f =
    let first = of_length one 10 (date_at one) n (only_parts is_day (date_of_text one) n e) in
    let second = of_length other 10 (date_at other) n (only_parts is_day (date_of_text other) n f) in
    alike one other 10 first.0 second.0 (date_tens one other n first.1 second.1)

moment_is : (a b : ℤ) (s t : ℕ) → s < 86_400 → t < 86_400 → a *ℤ pos 86_400 +ℤ pos s ≡ b *ℤ pos 86_400 +ℤ pos t → (a ≡ b) × (s ≡ t)
moment_is a b s t h k e = (omega (arith, signed_arith), omega (arith, signed_arith))

clock_small : (a b c : Option ℕ) (n : ℕ) → clock_of a b c ≡ Some n → n < 86_400
clock_small a b c n e =
    let is = clock_parts a b c n e in
    omega (arith, is.6, is.7, is.8, is.9)

clock_below : (text : List ℕ) (n : ℕ) → clock_at text ≡ Some n → n < 86_400
clock_below text n e = clock_small (two_digits text 11) (two_digits text 14) (two_digits text 17) n
    (opened ((get_or text 10 0 == 84) && (get_or text 13 0 == 58) && ((get_or text 16 0 == 58) && (get_or text 19 0 == 90))) (clock_of (two_digits text 11) (two_digits text 14) (two_digits text 17)) n e).1

pub instants_unique : IsUnique instant_of_text
instants_unique one other n e f =
    let first = of_length one 20 (moment_of (date_at one) (clock_at one)) n e in
    let second = of_length other 20 (moment_of (date_at other) (clock_at other)) n f in
    let a = moment_parts (date_at one) (clock_at one) n first.1 in
    let b = moment_parts (date_at other) (clock_at other) n second.1 in
    let is = moment_is a.0 b.0 a.1 b.1 (clock_below one a.1 a.3) (clock_below other b.1 b.3) (a.4 ∙ sym b.4) in
    let dates = date_tens one other b.0 (a.2 ∙ ap Some is.0) b.2 in
    let times = times_same one other b.1 (a.3 ∙ ap Some is.1) b.3 in
    alike one other 20 first.0 second.0 (tens one other 10 dates times)

pub stamps_unique : IsUnique stamp_of_text
stamps_unique one other n e f =
    instants_unique one other n (only_parts is_stamp (instant_of_text one) n e) (only_parts is_stamp (instant_of_text other) n f)
