-- The ends of a window, and the inputs of a day by them.
use Rattle.std.specs.Prelude.{◌≡◌, Bool, true, false, ◌&&◌, ℕ, ◌≤◌, List, [], ◌∷◌, All, IfSome, Option, Some, None, is_none, option_map, ℤ, pos, ◌-ℤ◌, ◌<ℤ◌, ◌≤ℤ◌}
use Rattle.std.proofs.Common.{arith, refl, ap, subst, ◌∙◌}
use Rattle.std.proofs.lemmas.Int.{ints}
use Rattle.std.proofs.lemmas.List.Elements.{All-head, All-tail}
use Rattle.fixed_units.specs.declared.readings.Reading.{Reading}
use Rattle.rising.specs.Ends.{first, last}
use Rattle.rising.proofs.Ends.{last-cons}
use Rattle.curves.specs.declared.entries.Entry.{Entry}
use Rattle.curves.specs.Corrections.{Corrections, AreCorrections}
use Rattle.editions.specs.Covers.{IsLeastCover}
use Rattle.curves.specs.Entries.{IsSeries}
use Rattle.curves.proofs.SeriesLemmas.{bearing_series}
use Rattle.fixed_units.specs.Quantities.{IsDischarge, IsStage, IsStamp, most_gap}
use Rattle.ratings.specs.Numbered.{StationRatings, AreRatings}
use Rattle.ratings.specs.Parts as rating_parts
use Rattle.ratings.proofs.CuttingLemmas.{parts_are}
use Rattle.rising.proofs.Selecting.{AllPairs-head, AllPairs-tail}
use Rattle.readings.specs.Readings.{IsRising}
use Rattle.day_inputs.specs.declared.day_inputs.DayParts.{DayParts}
use Rattle.day_inputs.specs.declared.day_inputs.DayInputs.TheVariants.{Empty, Day}
use Rattle.fixed_units.specs.Calendar.{shortest_day, longest_day}
use Rattle.day_inputs.specs.DayInputs.{last_at, window_ends, ends_of, with_window, AreInputs, parts_with as parts_of}
use Rattle.day_inputs.proofs.EqualityLemmas.{AreSame, from_parts}

last_told : (r : Reading) (rs : List Reading) → option_map (λ (x : Reading). x.at) (last (r ∷ rs)) ≡ Some (last_at r rs)
last_told r [] = refl
last_told r (s ∷ rs) = ap (option_map (λ (x : Reading). x.at)) (last-cons r s rs) ∙ last_told s rs

ends_by : (r : Reading) (l : Option Reading) (at : ℤ) → option_map (λ (x : Reading). x.at) l ≡ Some at → ends_of (Some r) l ≡ Some (r.at, at)
ends_by r None at e = absurd (cc)
ends_by r (Some x) at e = let f : x.at ≡ at = cc in ap (λ (n : ℤ). Some (r.at, n)) f

pub ends_are : (w : List Reading) → ends_of (first w) (last w) ≡ window_ends w
ends_are [] = refl
ends_are (r ∷ rs) = ends_by r (last (r ∷ rs)) (last_at r rs) (last_told r rs)

-- the last reading of a window stands no earlier than the first one, and at a stamp where all do
first_to_last : (r : Reading) (rs : List Reading) → IsRising (r ∷ rs) → r.at ≤ℤ last_at r rs
first_to_last r [] h = omega (arith, ints)
first_to_last r (s ∷ rs) h =
    let next : r.at <ℤ s.at = All-head (λ (x : Reading). r.at <ℤ x.at) s rs (AllPairs-head (λ (x : Reading) (y : Reading). x.at <ℤ y.at) r (s ∷ rs) h) in
    let rest = first_to_last s rs (AllPairs-tail (λ (x : Reading) (y : Reading). x.at <ℤ y.at) r (s ∷ rs) h) in
    omega (arith, ints)

last_stamp : (r : Reading) (rs : List Reading) → All (λ r. IsStamp r.at) (r ∷ rs) → IsStamp (last_at r rs)
last_stamp r [] h = All-head (λ (x : Reading). IsStamp x.at) r [] h
last_stamp r (s ∷ rs) h = last_stamp s rs (All-tail (λ (x : Reading). IsStamp x.at) r (s ∷ rs) h)

pub end_stamp : (w : List Reading) → All (λ r. IsStamp r.at) w → IfSome (window_ends w) (λ span. IsStamp span.1)
end_stamp [] h = tt
end_stamp (r ∷ rs) h = last_stamp r rs h

-- without entries and parts there is nothing to keep to
no_entries : IsSeries []
no_entries = record { rising = λ i j d u v. absurd (omega arith); amounts = λ i d u. absurd (omega arith) }

no_parts : rating_parts.AreParts []
no_parts = record { tables = λ i d u. absurd (omega arith); ordered = λ i d u. absurd (omega arith); apart = λ i j d u v. absurd (omega arith) }

pub and_false : (b : Bool) → (b && false) ≡ false
and_false true = refl
and_false false = refl

module _ (gap : ℕ) (stages discharges : List ℕ) (from until : ℤ) (c : Corrections) (shifts : List Entry) (ratings : StationRatings) (estimate : Option ℤ) (least : Option ℕ) where
  -- the inputs of a day of this window, with what counts for this time
  abbrev pub parts_with : List Reading → Option (ℤ × ℤ) → DayParts
  parts_with w span = parts_of gap stages discharges from until c shifts ratings estimate least w span

  pub no_inputs : (w : List Reading) → window_ends w ≡ None → estimate ≡ None → Empty ≡ with_window gap stages discharges from until c shifts ratings w estimate least
  no_inputs [] e f = rw f refl
  no_inputs (r ∷ rs) e f = absurd (cc)

  pub by_ends : (w : List Reading) → (is_none (window_ends w) && is_none estimate) ≡ false → Day (parts_with w (window_ends w)) ≡ with_window gap stages discharges from until c shifts ratings w estimate least
  by_ends (r ∷ rs) h = refl
  by_ends [] h = without estimate refl h
    where
      without : (q : Option ℤ) → estimate ≡ q → is_none q ≡ false → Day (parts_with [] None) ≡ with_window gap stages discharges from until c shifts ratings [] estimate least
      without None e h = absurd (cc)
      without (Some q) e h = rw e refl

  -- the same with the lists that were copied from the series
  pub made : (w : List Reading) (p : DayParts) → (is_none (window_ends w) && is_none estimate) ≡ false → AreSame p (parts_with w (window_ends w))
      → Day p ≡ with_window gap stages discharges from until c shifts ratings w estimate least
  made w p h same = ap Day (from_parts p (parts_with w (window_ends w)) same) ∙ by_ends w h

  -- the inputs of a day keep to what they must, where the window, the series and the estimate do
  pub inputs_kept : 1 ≤ gap → gap ≤ most_gap → pos shortest_day ≤ℤ (until -ℤ from) → (until -ℤ from) ≤ℤ pos longest_day → AreCorrections c → IsSeries shifts → AreRatings ratings → IfSome estimate IsDischarge → IfSome least IsLeastCover
      → (w : List Reading) → IsRising w → All (λ r. IsStage r.raw) w → AreInputs (with_window gap stages discharges from until c shifts ratings w estimate least)
  inputs_kept low high short long corrections series rated estimated needed [] rising stage = kept estimate refl
    where
      kept : (q : Option ℤ) → estimate ≡ q → AreInputs (with_window gap stages discharges from until c shifts ratings [] estimate least)
      kept None e = rw e tt
      kept (Some q) e = rw e (record {
        gap_low = low;
        gap_high = high;
        shortest = short;
        longest = long;
        rising = rising;
        stages = stage;
        first = no_entries;
        second = no_entries;
        third = no_entries;
        shifts = no_entries;
        periods = no_parts;
        estimate = subst (λ (x : Option ℤ). IfSome x IsDischarge) e estimated;
        least = tt;
      })
  inputs_kept low high short long corrections series rated estimated needed (r ∷ rs) rising stage = record {
    gap_low = low;
    gap_high = high;
    shortest = short;
    longest = long;
    rising = rising;
    stages = stage;
    first = bearing_series r.at (last_at r rs) c.first corrections.first;
    second = bearing_series r.at (last_at r rs) c.second corrections.second;
    third = bearing_series r.at (last_at r rs) c.third corrections.third;
    shifts = bearing_series r.at (last_at r rs) shifts series;
    periods = parts_are r.at (last_at r rs) ratings rated (first_to_last r rs rising);
    estimate = estimated;
    least = needed;
  }
