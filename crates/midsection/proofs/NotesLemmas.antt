-- The verticals that are read are verticals of notes.
use Rattle.std.proofs.Common.{◌≡◌, ◌∙◌, ℕ, zero, suc, ◌+◌, ◌<◌, ◌≤◌, Bool, true, false, not, if◌then◌else◌, List, [], ◌∷◌, length, Option, None, Some, Result, Ok, Err, ℤ, pos, ◌<ℤ◌, refl, ap, sym, subst, arith}
use Rattle.std.specs.Prelude.{All, IfSome, IsSome, is_some, int_lt}
use Rattle.std.proofs.lemmas.Bool.{and_parts}
use Rattle.std.proofs.lemmas.Int.{ints}
use Rattle.std.proofs.lemmas.List.Elements.{All-cons, All-nil, All-weaker}
use Rattle.std.proofs.lemmas.List.Kept.{AllPairs-cons}
use Rattle.fixed_units.specs.Quantities.{IsWithin, is_discharge, is_within}
use Rattle.rising.proofs.Parting.{yes_le}
use Rattle.rising.specs.Lists.{IsRising}
use Rattle.midsection.specs.Fractions as fractions
use Rattle.midsection.specs.Midsection.{total}
use Rattle.midsection.specs.Notes.{AreVerticals, IsNotes, distance_of, is_off_count}
use Rattle.midsection.specs.Reading.{and_verticals, are_names, in_front, is_above, next_vertical, tested, vertical_in, verticals_in, verticals_of}
use Rattle.midsection.specs.Verticals.{IsVelocity, IsVertical, is_depth, is_distance, is_in_range, is_velocity, is_velocity_or_none, velocity_by_method}
use Rattle.midsection.specs.declared.faults.NotesFault.{NotesFault}
use Rattle.midsection.specs.declared.faults.NotesFault.TheVariants as faults
use Rattle.midsection.specs.declared.fractions.Fraction.{Fraction}
use Rattle.midsection.specs.declared.verticals.Vertical.{Vertical}

in_range : (least greatest n : ℤ) → is_within least greatest n ≡ true → IsWithin least greatest n
in_range least greatest n e = let p = and_parts _ _ e in record { low = yes_le _ _ p.0; high = yes_le _ _ p.1 }

velocity_is : (v : Option ℤ) → is_velocity_or_none v ≡ true → IfSome v IsVelocity
velocity_is None e = tt
velocity_is (Some n) e = in_range _ _ n e

method_is : (o : Option Fraction) → is_some o ≡ true → IsSome o
method_is None e = absurd (cc)
method_is (Some f) e = refl

vertical_is : (v : Vertical) → is_in_range v ≡ true → is_some (velocity_by_method v) ≡ true → IsVertical v
vertical_is v e m =
    let four = and_parts _ (is_velocity_or_none v.v8) e in
    let three = and_parts _ (is_velocity_or_none v.v6) four.0 in
    let two = and_parts _ (is_velocity_or_none v.v2) three.0 in
    let one = and_parts (is_distance v.distance) (is_depth v.depth) two.0 in
    record {
      distance = in_range _ _ v.distance one.0;
      depth = in_range _ _ v.depth one.1;
      v2 = velocity_is v.v2 two.1;
      v6 = velocity_is v.v6 three.1;
      v8 = velocity_is v.v8 four.1;
      method = method_is (velocity_by_method v) m;
    }

-- a vertical that passes the tests behind a distance
record Passes (before : Option ℤ) (v : Vertical) : Type 0 where
  vertical : IsVertical v
  above : is_above before v.distance ≡ true

tested_passes : (number : ℕ) (before : Option ℤ) (o : Option Vertical) (v : Vertical) → tested number before o ≡ Ok v → Passes before v
tested_passes number before None v e = absurd (cc)
tested_passes number before (Some x) v e = by (is_in_range x) (is_above before x.distance) (is_some (velocity_by_method x)) refl refl refl e
  where
    by : (a b m : Bool) → is_in_range x ≡ a → is_above before x.distance ≡ b → is_some (velocity_by_method x) ≡ m
        → (if not a then Err (faults.Range number) else (if not b then Err (faults.Order number) else (if not m then Err (faults.Method number) else Ok x))) ≡ Ok v
        → Passes before v
    by false b m p q r k = absurd (cc)
    by true false m p q r k = absurd (cc)
    by true true false p q r k = absurd (cc)
    by true true true p q r k =
        let same : x ≡ v = cc in
        subst (Passes before) same (record { vertical = vertical_is x p r; above = q })

-- verticals behind a distance
AreBehind : Option ℤ → List Vertical → Type 0
AreBehind before [] = Unit {0}
AreBehind before (v ∷ vs) = Passes before v × AreBehind (Some v.distance) vs

front_ok : (v : Vertical) (r : Result (List Vertical) NotesFault) (vs : List Vertical) → in_front v r ≡ Ok vs → (rest : List Vertical) × (r ≡ Ok rest) × (v ∷ rest ≡ vs)
front_ok v (Err f) vs e = absurd (cc)
front_ok v (Ok rest) vs e = (rest, refl, cc)

all_behind : (number : ℕ) (before : Option ℤ) (rows : List (List (List ℕ))) (vs : List Vertical) → verticals_of number before rows ≡ Ok vs → AreBehind before vs
unfolding verticals_of AreBehind
all_behind number before [] vs e = let none : [] ≡ vs = cc in subst (AreBehind before) none tt
all_behind number before (fields ∷ rows) vs e =
    by (next_vertical number before fields) refl (λ v rest k. all_behind (suc number) (Some v.distance) rows rest k) e
  where
    by : (r : Result Vertical NotesFault) → next_vertical number before fields ≡ r
        → ((v : Vertical) (rest : List Vertical) → verticals_of (suc number) (Some v.distance) rows ≡ Ok rest → AreBehind (Some v.distance) rest)
        → and_verticals r (λ v. verticals_of (suc number) (Some v.distance) rows) ≡ Ok vs → AreBehind before vs
    by (Err f) h more k = absurd (cc)
    by (Ok v) h more k =
        let parts = front_ok v (verticals_of (suc number) (Some v.distance) rows) vs k in
        subst (AreBehind before) parts.2 (tested_passes number before (vertical_in fields) v h, more v parts.0 parts.1)

above_is : (a b : ℤ) → is_above (Some a) b ≡ true → a <ℤ b
above_is a b e = omega (arith, ints, e)

each_is : (before : Option ℤ) (vs : List Vertical) → AreBehind before vs → All IsVertical vs
unfolding AreBehind
each_is before [] h = All-nil IsVertical
each_is before (v ∷ vs) h = All-cons IsVertical v vs h.0.vertical (each_is (Some v.distance) vs h.1)

abbrev IsBelow : Vertical → Vertical → Type 0
IsBelow v w = distance_of v <ℤ distance_of w

all_above : (v : Vertical) (vs : List Vertical) → AreBehind (Some v.distance) vs → All (IsBelow v) vs
unfolding AreBehind
all_above v [] h = All-nil (IsBelow v)
all_above v (w ∷ vs) h =
    let first = above_is v.distance w.distance h.0.above in
    All-cons (IsBelow v) w vs first (All-weaker (IsBelow w) (IsBelow v) (λ x m. omega (arith, ints, first, m)) vs (all_above w vs h.1))

all_rise : (before : Option ℤ) (vs : List Vertical) → AreBehind before vs → IsRising distance_of vs
unfolding AreBehind
all_rise before [] h = λ j k d l m. absurd (omega arith)
all_rise before (v ∷ vs) h = AllPairs-cons IsBelow v vs (all_above v vs h.1) (all_rise (Some v.distance) vs h.1)

pub read_verticals_are : (rows : List (List (List ℕ))) (vs : List Vertical) → verticals_in rows ≡ Ok vs → AreVerticals vs
read_verticals_are [] vs e = absurd (cc)
read_verticals_are (names ∷ rows) vs e = by (are_names names) e
  where
    by : (b : Bool) → (if b then verticals_of 2 None rows else Err faults.Header) ≡ Ok vs → AreVerticals vs
    by false k = absurd (cc)
    by true k =
        let behind = all_behind 2 None rows vs k in
        record { each = each_is None vs behind; rising = all_rise None vs behind }

pub notes_are : (vs : List Vertical) → AreVerticals vs → is_off_count (length vs) ≡ false → is_discharge (total vs) ≡ true → IsNotes vs
notes_are vs h count sum = record { least = grind arith; most = grind arith; verticals_are = h; total_is = in_range _ _ (total vs) sum }
