-- Counts of a day: what is counted and what is left make up the whole, and a day has no more readings than seconds.
use Rattle.std.proofs.Common.{◌≡◌, refl, sym, subst, drop, ℕ, ◌+◌, ◌≤◌, Bool, true, false, cond, List, [], ◌∷◌, length, Result, Ok, Err, ℤ, pos, ◌+ℤ◌, ◌-ℤ◌, ◌≤ℤ◌, ◌<ℤ◌, arith}
use Rattle.std.specs.Prelude.{count_by, map, ◌&&◌, int_le, int_lt}
use Rattle.std.specs.Int.{int_max}
use Rattle.std.proofs.lemmas.Int.{ints, clamps}
use Rattle.std.proofs.lemmas.List.{drop_all}
use Rattle.std.proofs.lemmas.List.Sums.{sum_by-cons}
use Rattle.fixed_units.specs.declared.readings.Reading.{Reading}
use Rattle.fixed_units.specs.Calendar.{longest_day}
use Rattle.unit_discharge.specs.declared.unit_values.Unit.{Unit}
use Rattle.unit_discharge.specs.declared.unit_values.Missing.{Missing}
use Rattle.unit_discharge.specs.declared.unit_values.Missing.TheVariants as missing
use Rattle.day_inputs.specs.declared.day_inputs.DayParts.{DayParts}
use Rattle.day_inputs.specs.DayInputs.{AreParts}
use Rattle.daily_values.specs.declared.counts.Counts.{Counts}
use Rattle.daily_values.specs.DayValue.{unit_of, units_of, is_of_day, is_missing, has_reason, counts_of, day_length}
use Rattle.daily_values.specs.Figures.{AreCounts}
use Rattle.daily_values.proofs.AreaLemmas.{AreRising, day_length-le, positive_part-is, units-rise, rising-first, rising-tail}

-- one more or none
abbrev pub one : Bool → ℕ
one b = cond b 1 0

count-cons : {X : Type 0} (p : X → Bool) (x : X) (xs : List X) → count_by p (x ∷ xs) ≡ one (p x) + count_by p xs
count-cons p x xs = sum_by-cons (λ x. cond (p x) 1 0) x xs

one-le : (a b : Bool) → one (a && b) ≤ one a
one-le true true = omega arith
one-le true false = omega arith
one-le false b = omega arith

-- no more are missing than there are
count-le : {X : Type 0} (p q : X → Bool) (xs : List X) → count_by (λ x. p x && q x) xs ≤ count_by p xs
count-le p q [] = omega arith
count-le p q (x ∷ xs) =
    let here = one-le (p x) (q x) in
    let behind = count-le p q xs in
    let left = count-cons (λ x. p x && q x) x xs in
    let right = count-cons p x xs in
    omega (arith, here, behind, left, right)

-- the counts, and the unit values that are still to be counted, make up all unit values
pub record AreCountsOfRest (day : DayParts) (rest all : List Unit) (counts : Counts) : Type 0 where
  pub readings : counts.readings + count_by (is_of_day day) rest ≡ count_by (is_of_day day) all
  pub affected : counts.affected + count_by (is_missing day missing.Affected) rest ≡ count_by (is_missing day missing.Affected) all
  pub no_rating : counts.no_rating + count_by (is_missing day missing.NoRating) rest ≡ count_by (is_missing day missing.NoRating) all
  pub below : counts.below + count_by (is_missing day missing.Below) rest ≡ count_by (is_missing day missing.Below) all
  pub above : counts.above + count_by (is_missing day missing.Above) rest ≡ count_by (is_missing day missing.Above) all

-- the counts with a unit value more
pub record IsOneMore (day : DayParts) (counts : Counts) (u : Unit) (next : Counts) : Type 0 where
  pub readings : next.readings ≡ counts.readings + one (is_of_day day u)
  pub affected : next.affected ≡ counts.affected + one (is_missing day missing.Affected u)
  pub no_rating : next.no_rating ≡ counts.no_rating + one (is_missing day missing.NoRating u)
  pub below : next.below ≡ counts.below + one (is_missing day missing.Below u)
  pub above : next.above ≡ counts.above + one (is_missing day missing.Above u)

pub counts-start : (day : DayParts) (all : List Unit) (counts : Counts) → ◌≡◌ {A = Counts} counts (record { readings = 0; affected = 0; no_rating = 0; below = 0; above = 0 })
    → AreCountsOfRest day all all counts
counts-start day all counts e = rw e (record { readings = omega arith; affected = omega arith; no_rating = omega arith; below = omega arith; above = omega arith })

step : (p : Unit → Bool) (u : Unit) (rest all : List Unit) (n m : ℕ) → n + count_by p (u ∷ rest) ≡ count_by p all → m ≡ n + one (p u)
    → m + count_by p rest ≡ count_by p all
step p u rest all n m h e = let more = count-cons p u rest in omega (arith, more, h, e)

pub counts-step : (day : DayParts) (u : Unit) (rest all : List Unit) (counts next : Counts) → AreCountsOfRest day (u ∷ rest) all counts
    → IsOneMore day counts u next → AreCountsOfRest day rest all next
counts-step day u rest all counts next h k = record {
  readings = step (is_of_day day) u rest all counts.readings next.readings h.readings k.readings;
  affected = step (is_missing day missing.Affected) u rest all counts.affected next.affected h.affected k.affected;
  no_rating = step (is_missing day missing.NoRating) u rest all counts.no_rating next.no_rating h.no_rating k.no_rating;
  below = step (is_missing day missing.Below) u rest all counts.below next.below h.below k.below;
  above = step (is_missing day missing.Above) u rest all counts.above next.above h.above k.above;
}

made : (a b c d e f g h i j : ℕ) → a ≡ f → b ≡ g → c ≡ h → d ≡ i → e ≡ j
    → ◌≡◌ {A = Counts} (record { readings = a; affected = b; no_rating = c; below = d; above = e }) (record { readings = f; affected = g; no_rating = h; below = i; above = j })
made a b c d e f g h i j p q r s t = cc

pub counts-done : (day : DayParts) (counts : Counts) → AreCountsOfRest day [] (units_of day) counts → counts ≡ counts_of day
counts-done day counts h =
    let all = counts_of day in
    made counts.readings counts.affected counts.no_rating counts.below counts.above all.readings all.affected all.no_rating all.below all.above
    (omega (arith, h.readings)) (omega (arith, h.affected)) (omega (arith, h.no_rating)) (omega (arith, h.below)) (omega (arith, h.above))

-- a unit value of the day stands within it
within : (day : DayParts) (at : ℤ) (a b : Bool) → int_le day.from at ≡ a → int_lt at day.until ≡ b → (pos (one (a && b)) +ℤ int_max day.from at) ≤ℤ int_max day.until (int_max day.from at)
within day at false b e f = omega (arith, ints, clamps)
within day at true false e f = omega (arith, ints, clamps)
within day at true true e f =
    let from : day.from ≤ℤ at = omega (arith, ints, e) in
    let until : at <ℤ day.until = omega (arith, ints, f) in
    omega (arith, ints, clamps, from, until)

-- the unit values of the day from one on fit between it and the end of the day
counted-behind : (day : DayParts) (u : Unit) (us : List Unit) → AreRising (u ∷ us) → (pos (count_by (is_of_day day) (u ∷ us)) +ℤ int_max day.from u.at) ≤ℤ int_max day.until (int_max day.from u.at)
counted-behind day u [] h =
    let here = within day u.at (int_le day.from u.at) (int_lt u.at day.until) refl refl in
    rw (count-cons (is_of_day day) u []) (omega (arith, ints, here))
counted-behind day u (v ∷ us) h =
    let here = within day u.at (int_le day.from u.at) (int_lt u.at day.until) refl refl in
    let behind = counted-behind day v us (rising-tail (λ (u : Unit). u.at) u (v ∷ us) h) in
    let less = rising-first (λ (u : Unit). u.at) u v us h in
    rw (count-cons (is_of_day day) u (v ∷ us))
    (joined day.from day.until u.at v.at (is_of_day day u) (count_by (is_of_day day) (v ∷ us)) (λ e. of_day day u e) less behind)
  where
    of_day : (day : DayParts) (u : Unit) → is_of_day day u ≡ true → (day.from ≤ℤ u.at) × (u.at <ℤ day.until)
    of_day day u e = both (int_le day.from u.at) (int_lt u.at day.until) refl refl e
      where
        both : (a b : Bool) → int_le day.from u.at ≡ a → int_lt u.at day.until ≡ b → (a && b) ≡ true → (day.from ≤ℤ u.at) × (u.at <ℤ day.until)
        both false b e f h = absurd (cc)
        both true false e f h = absurd (cc)
        both true true e f h = (omega (arith, ints, e), omega (arith, ints, f))

    joined : (from until at next : ℤ) (b : Bool) (n : ℕ) → (b ≡ true → (from ≤ℤ at) × (at <ℤ until)) → at <ℤ next
        → (pos n +ℤ int_max from next) ≤ℤ int_max until (int_max from next) → (pos (one b + n) +ℤ int_max from at) ≤ℤ int_max until (int_max from at)
    joined from until at next false n h less behind = omega (arith, ints, clamps)
    joined from until at next true n h less behind =
        let low = (h refl).0 in
        let high = (h refl).1 in
        omega (arith, ints, clamps, low, high)

-- a day has no more readings than seconds
counted-le : (day : DayParts) → AreParts day → count_by (is_of_day day) (units_of day) ≤ day_length day
counted-le day are = by (units_of day) (units-rise day day.window are.rising)
  where
    by : (us : List Unit) → AreRising us → count_by (is_of_day day) us ≤ day_length day
    by [] h = omega arith
    by (u ∷ us) h =
        let behind = counted-behind day u us h in
        let length = positive_part-is (day.until -ℤ day.from) (omega (arith, ints, are.shortest)) in
        omega (arith, ints, clamps, behind, length, are.shortest)

-- a unit value of the day is missing for one reason at most
missing-one : (a : Bool) (r : Result ℤ Missing)
    → one (a && has_reason missing.Affected r) + one (a && has_reason missing.NoRating r) + one (a && has_reason missing.Below r) + one (a && has_reason missing.Above r) ≤ one a
missing-one false r = omega arith
missing-one true (Ok discharge) = omega arith
missing-one true (Err missing.Affected) = omega arith
missing-one true (Err missing.NoRating) = omega arith
missing-one true (Err missing.Below) = omega arith
missing-one true (Err missing.Above) = omega arith

missing-le : (day : DayParts) (us : List Unit)
    → count_by (is_missing day missing.Affected) us + count_by (is_missing day missing.NoRating) us + count_by (is_missing day missing.Below) us + count_by (is_missing day missing.Above) us
    ≤ count_by (is_of_day day) us
missing-le day [] = omega arith
missing-le day (u ∷ us) =
    let here = missing-one (is_of_day day u) u.discharge in
    let behind = missing-le day us in
    let affected = count-cons (is_missing day missing.Affected) u us in
    let no_rating = count-cons (is_missing day missing.NoRating) u us in
    let below = count-cons (is_missing day missing.Below) u us in
    let above = count-cons (is_missing day missing.Above) u us in
    let readings = count-cons (is_of_day day) u us in
    omega (arith, here, behind, affected, no_rating, below, above, readings)

counts-within : (day : DayParts) → AreParts day → AreCounts (day_length day) (counts_of day)
counts-within day are = record { readings = counted-le day are; missing = missing-le day (units_of day) }

-- and so are counts that leave none to be counted
pub counts-whole : (day : DayParts) → AreParts day → (rs : List Reading) (i : ℕ) (counts : Counts) → length rs ≤ i
    → AreCountsOfRest day (map (unit_of day) (drop i rs)) (units_of day) counts → AreCounts (day_length day) counts
counts-whole day are rs i counts l h =
    let none = drop_all i rs l in
    let whole = counts-done day counts (subst (λ (left : List Reading). AreCountsOfRest day (map (unit_of day) left) (units_of day) counts) none h) in
    subst (AreCounts (day_length day)) (sym whole) (counts-within day are)

counted-most : (day : DayParts) → AreParts day → count_by (is_of_day day) (units_of day) ≤ longest_day
counted-most day are = let most = counted-le day are in let long = day_length-le day are in omega (arith, most, long)

-- so the counts are no more than that
pub record AreFew (counts : Counts) : Type 0 where
  pub readings : counts.readings ≤ longest_day
  pub affected : counts.affected ≤ longest_day
  pub no_rating : counts.no_rating ≤ longest_day
  pub below : counts.below ≤ longest_day
  pub above : counts.above ≤ longest_day

pub counts-few : (day : DayParts) → AreParts day → (rest : List Unit) (counts : Counts) → AreCountsOfRest day rest (units_of day) counts → AreFew counts
counts-few day are rest counts h =
    let most = counted-most day are in
    record {
      readings = omega (arith, most, h.readings);
      affected = few missing.Affected counts.affected h.affected;
      no_rating = few missing.NoRating counts.no_rating h.no_rating;
      below = few missing.Below counts.below h.below;
      above = few missing.Above counts.above h.above;
    }
  where
    few : (reason : Missing) (n : ℕ) → n + count_by (is_missing day reason) rest ≡ count_by (is_missing day reason) (units_of day) → n ≤ longest_day
    few reason n h =
        let most = counted-most day are in
        let less = count-le (is_of_day day) (λ (u : Unit). has_reason reason u.discharge) (units_of day) in
        omega (arith, most, less, h)
