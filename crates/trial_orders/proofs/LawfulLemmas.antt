-- That what a trial asks is lawful.
use Rattle.std.proofs.Common.{◌≡◌, ℕ, ◌+◌, ◌*◌, ◌^◌, ◌<◌, ◌≤◌, ℤ, pos, neg_ℤ, ◌<ℤ◌, [], ◌∷◌, map, get_or, refl, subst, sym, arith, rules, None}
use Rattle.std.specs.Prelude.{All}
use Rattle.std.specs.List.{range_with_len}
use Rattle.std.proofs.Math.Nat.{mul-le-mul_left, mul_assoc}
use Rattle.std.proofs.lemmas.Int.{ints}
use Rattle.std.proofs.lemmas.List.Elements.{All-cons, All-nil}
use Rattle.std.proofs.lemmas.List.Kept.{AllPairs-cons}
use Rattle.std.proofs.lemmas.List.FromFn.{get_or-map-range_with_len, length-map-range_with_len}
use Rattle.edits.specs.Lawful.{IsLawful, IsPutCurve, IsPutPoint, IsPutReading}
use Rattle.fixed_units.specs.Quantities.{IsAmount}
use Rattle.rating_tables.proofs.TableLemmas.{none_table}
use Rattle.rating_tables.specs.Table.{IsRatingRow, table_fault}
use Rattle.readings.specs.Readings.{instant_of}
use Rattle.rising.specs.Lists.{IsRising}
use Rattle.trial_orders.proofs.DigitLemmas.{is_name}
use Rattle.trial_orders.proofs.PartLemmas.{is_part}
use Rattle.trial_orders.proofs.ZoneLemmas.{is_zone}
use Rattle.trial_orders.specs.Questions.{addition, approval, approved_instant, first_correction, flagging, open_instant, part_put, part_readings, period, rating, rating_row, rating_rows, reading_of, readings_of_part, review, second_correction, shift}

-- ---- the values of a function, one behind another

all_values : {X : Type 0} (P : X → Type 0) (f : ℕ → X) (from count : ℕ) → ((i : ℕ) → i < count → P (f (from + i))) → All P (map f (range_with_len from count))
all_values P f from count each k d within =
    let long = length-map-range_with_len f from count in
    subst P (sym (get_or-map-range_with_len f from count k (from + k) d (omega (arith, long)) refl)) (each k (omega (arith, long)))

rising_values : {X : Type 0} (place : X → ℤ) (f : ℕ → X) (from count : ℕ)
    → ((i j : ℕ) → i < j → place (f (from + i)) <ℤ place (f (from + j))) → IsRising place (map f (range_with_len from count))
rising_values {X} place f from count each i j d before within =
    let long = length-map-range_with_len f from count in
    let first = get_or-map-range_with_len f from count i (from + i) d (omega (arith, long)) refl in
    let second = get_or-map-range_with_len f from count j (from + j) d (omega (arith, long)) refl in
    subst (λ (x : X). place x <ℤ place (get_or (map f (range_with_len from count)) j d)) (sym first) (subst (λ (y : X). place (f (from + i)) <ℤ place y) (sym second) (each i j before))

-- ---- a station is added

pub lawful_addition : (station : ℕ) → station < 2 ^ 32 → IsLawful (addition station)
lawful_addition station few = (
  record {
    named = is_name station few;
    near = search rules;
    stages = search rules;
    discharges = search rules;
  },
  is_zone station,
)

-- ---- its rating and its period

square_few : (feet : ℕ) → feet < 21 → feet * feet ≤ 400
square_few feet few = let most = mul-le-mul_left {m = feet} {n = 20} feet (omega arith) in omega (arith, most)

rating_row_in_range : (feet : ℕ) → feet < 21 → IsRatingRow (rating_row feet)
rating_row_in_range feet few =
    let square = square_few feet few in
    let turned : 10 * feet * feet ≡ 10 * (feet * feet) = mul_assoc 10 feet feet in
    record {
      stage = record { low = omega (arith, ints); high = omega (arith, ints) };
      discharge = record { low = omega (arith, ints); high = omega (arith, ints) };
    }

pub lawful_rating : table_fault rating_rows ≡ None → IsLawful rating
unfolding rating_rows
lawful_rating sound = (search rules, record { table = none_table _ sound; ranges = all_values IsRatingRow rating_row 0 21 (λ i few. rating_row_in_range (0 + i) (omega arith)) })

pub lawful_period : IsLawful period
lawful_period = record { rating = search rules; begins = search rules; ends = tt; ordered = tt }

-- ---- its readings

put_reading : (number station part i : ℕ) → part < 8 → i < 2_400 → IsPutReading (reading_of number station (2_400 * part + i))
put_reading number station part i few within = record {
  stamp = record { low = omega (arith, ints); high = omega (arith, ints) };
  stage = record { low = omega (arith, ints); high = omega (arith, ints) };
}

pub lawful_readings : (number station part : ℕ) → part < 8 → IsLawful (part_put number station part)
unfolding part_readings
lawful_readings number station part few =
    let long = length-map-range_with_len (reading_of number station) (2_400 * part) readings_of_part in
    record {
      fewest = omega (arith, long, is_part);
      most = omega (arith, long, is_part);
      rising = rising_values instant_of (reading_of number station) (2_400 * part) readings_of_part (λ i j before. omega (arith, ints));
      each = all_values IsPutReading (reading_of number station) (2_400 * part) readings_of_part
          (λ i within. put_reading number station part i few (omega (arith, is_part)));
    }

-- ---- its corrections and its shift

one_point : (amount : ℤ) → IsAmount amount → IsPutCurve ((pos 0, amount) ∷ [])
one_point amount within = record {
  fewest = omega arith;
  most = omega arith;
  rising = λ i j d before behind. absurd (omega arith);
  each = All-cons IsPutPoint (pos 0, amount) [] (record { stage = search rules; amount = within }) (All-nil IsPutPoint);
}

three_points : (a b c : ℤ × ℤ) → IsPutPoint a → IsPutPoint b → IsPutPoint c → a.0 <ℤ b.0 → a.0 <ℤ c.0 → b.0 <ℤ c.0 → IsPutCurve (a ∷ b ∷ c ∷ [])
three_points a b c p q r e f g = record {
  fewest = omega arith;
  most = omega arith;
  rising =
      AllPairs-cons Before a (b ∷ c ∷ []) (All-cons (Before a) b (c ∷ []) e (All-cons (Before a) c [] f (All-nil (Before a))))
      (AllPairs-cons Before b (c ∷ []) (All-cons (Before b) c [] g (All-nil (Before b))) (λ i j d before behind. absurd (omega arith)));
  each = All-cons IsPutPoint a (b ∷ c ∷ []) p (All-cons IsPutPoint b (c ∷ []) q (All-cons IsPutPoint c [] r (All-nil IsPutPoint)));
}
  where
    Before : ℤ × ℤ → ℤ × ℤ → Type 0
    Before x y = x.0 <ℤ y.0

pub lawful_first_correction : IsLawful first_correction
lawful_first_correction = (search rules, search rules, one_point (pos 0) (search rules))

pub lawful_second_correction : IsLawful second_correction
lawful_second_correction = (search rules, search rules, one_point (pos 100_000) (search rules))

pub lawful_shift : IsLawful shift
lawful_shift = (
  search rules,
  three_points (pos 0, pos 0) (pos 5_000_000, neg_ℤ (pos 50_000)) (pos 10_000_000, pos 0) (search rules) (search rules) (search rules) (search rules) (search rules) (search rules),
)

-- ---- its review and its approval, and the flags

pub lawful_review : IsLawful review
lawful_review = search rules

pub lawful_approval : IsLawful approval
lawful_approval = search rules

pub lawful_flagging_approved : IsLawful (flagging approved_instant)
lawful_flagging_approved = search rules

pub lawful_flagging_open : IsLawful (flagging open_instant)
lawful_flagging_open = search rules
