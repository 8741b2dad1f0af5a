-- The chunks of readings that one edit each may put.
use Rattle.std.proofs.Common.{◌≡◌, ◌⊎◌, inl, inr, sym, ◌∙◌, ap, subst, min, ℕ, zero, suc, ◌+◌, ◌-◌, ◌*◌, ◌<◌, ◌≤◌, ℤ, pos, ◌+ℤ◌, ◌≤ℤ◌, ◌<ℤ◌, List, [], ◌∷◌, take, drop, length, get_or, All, arith, length-take, length-drop}
use Rattle.std.proofs.lemmas.Grind.{div_ceil_times}
use Rattle.std.proofs.lemmas.Int.{ints}
use Rattle.std.proofs.lemmas.Bool.{cases_lt}
use Rattle.std.proofs.lemmas.List.{take-append-drop, take_all}
use Rattle.std.proofs.lemmas.List.Elements.{All-drop, All-take}
use Rattle.std.specs.Fork.{slice_chunk}
use Rattle.edits.specs.Lawful.{ArePutReadings, IsPutReading, most_readings}
use Rattle.fixed_units.specs.Quantities.{first_stamp}
use Rattle.fixed_units.specs.declared.readings.Reading.{Reading}
use Rattle.readings.specs.Readings.{IsRising, instant_of}
use Rattle.reading_loading.specs.Puts.{put_count}
use Rattle.rising.proofs.Selecting.{AllPairs-back, AllPairs-front}

below : (q place n : ℕ) → place < q → q * 100_000 < n + 100_000 → place * 100_000 < n
below q place n h k = omega arith

-- as many as there are of so many
pub take_least : (n : ℕ) (l : List Reading) (k : ℕ) → k ≡ min (length l) n → take k l ≡ take n l
take_least n l k is = by (cases_lt n (length l))
  where
    by : (n < length l) ⊎ (length l ≤ n) → take k l ≡ take n l
    by (inl less) = let same : k ≡ n = omega (arith, is, less) in ap (λ (m : ℕ). take m l) same
    by (inr more) = take_all k l (omega (arith, is, more)) ∙ sym (take_all n l more)

-- the chunk of each edit begins within the readings
pub chunk_begins : (n place : ℕ) → place < put_count n → place * most_readings < n
chunk_begins n place h = below (put_count n) place n h (div_ceil_times n most_readings (omega arith)).1

Before : Reading → Reading → Type 0
Before x y = instant_of x <ℤ instant_of y

rising_chunk : (readings : List Reading) (from count : ℕ) → IsRising readings → IsRising (take count (drop from readings))
unfolding Before
rising_chunk readings from count rising =
    let rest : IsRising (drop from readings) =
    AllPairs-back Before (take from readings) (drop from readings)
    (subst (λ (l : List Reading). IsRising l) (sym (take-append-drop from readings)) rising)
    in
    AllPairs-front Before (take count (drop from readings)) (drop count (drop from readings))
    (subst (λ (l : List Reading). IsRising l) (sym (take-append-drop count (drop from readings))) rest)

some_left : (n from : ℕ) → from < n → 1 ≤ n - from
some_left n from h = omega arith

-- and may be put by one edit
pub chunk_is_lawful : (readings : List Reading) (place : ℕ) → place < put_count (length readings) → IsRising readings → All IsPutReading readings
    → ArePutReadings (slice_chunk readings most_readings place)
chunk_is_lawful readings place within rising each =
    let begins = chunk_begins (length readings) place within in
    let rest = length-drop (place * most_readings) readings in
    let whole = length-take most_readings (drop (place * most_readings) readings) in
    record {
      fewest = omega (arith, begins, rest, whole);
      most = omega (arith, whole);
      rising = rising_chunk readings (place * most_readings) most_readings rising;
      each = All-take IsPutReading most_readings (drop (place * most_readings) readings) (All-drop IsPutReading (place * most_readings) readings each);
    }

-- each reading stands at least as many seconds after the first stamp as there are readings before it
stands_behind : (readings : List Reading) (d : Reading) (k : ℕ) → IsRising readings → All IsPutReading readings → k < length readings
    → (first_stamp +ℤ pos k) ≤ℤ (get_or readings k d).at
stands_behind readings d zero rising each within = let low = (each 0 d within).stamp.low in omega (arith, ints, low)
stands_behind readings d (suc k) rising each within =
    let less : k < length readings = omega arith in
    let before = stands_behind readings d k rising each less in
    let step = rising k (suc k) d (omega arith) within in
    omega (arith, ints, before, step)

-- so there are no more than stamps
pub few_readings : (readings : List Reading) → IsRising readings → All IsPutReading readings → length readings ≤ 6_311_001_600
few_readings [] rising each = omega arith
few_readings (reading ∷ readings) rising each =
    let within : length readings < length (reading ∷ readings) = omega arith in
    let low = stands_behind (reading ∷ readings) reading (length readings) rising each within in
    let high = (each (length readings) reading within).stamp.high in
    omega (arith, ints, low, high)

few_puts : (n q : ℕ) → n ≤ 6_311_001_600 → q * 100_000 < n + 100_000 → q < 999_999_999
few_puts n q few whole = omega arith

-- and no number of an edit has more than nine digits
pub few_numbers : (readings : List Reading) (place : ℕ) → IsRising readings → All IsPutReading readings → place < put_count (length readings)
    → place + 1 < 1_000_000_000
few_numbers readings place rising each within =
    let few = few_puts (length readings) (put_count (length readings)) (few_readings readings rising each)
    (div_ceil_times (length readings) most_readings (omega arith)).1 in
    omega (arith, few, within)
