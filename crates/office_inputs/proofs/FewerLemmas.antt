-- An edit that puts no readings leaves no more of them, on no day either.
use Rattle.std.specs.Prelude.{◌≡◌, ℕ, ◌≤◌, Bool, true, false, not, cond, List, [], ◌∷◌, filter, map, length, pos, ◌+ℤ◌}
use Rattle.std.proofs.Common.{arith, refl, ap}
use Rattle.std.proofs.lemmas.List.{length-map}
use Rattle.std.proofs.lemmas.List.Filters.{length-filter_both}
use Rattle.edits.specs.declared.content.What.{What}
use Rattle.edits.specs.declared.content.What.TheVariants.{PutReadings, DropReadings, FlagReadings}
use Rattle.fixed_units.specs.declared.readings.Reading.{Reading}
use Rattle.readings.specs.Readings.{flagged_where, is_within}
use Rattle.readings.specs.Window.{is_of_day}
use Rattle.station_inputs.specs.Stations.{StationState, day_start, station_after}
use Rattle.station_inputs.proofs.DayCounts.{filters_swapped}
use Rattle.office_inputs.proofs.CountLemmas.{IsFewer}

-- a filter keeps no more
fewer_kept : {X : Type 0} (p : X → Bool) (xs : List X) → length (filter p xs) ≤ length xs
fewer_kept p xs = let l = length-filter_both p (λ x. not (p x)) (λ x. refl) xs in omega (arith, l)

-- as many pass where each is marked
marked_step : {X : Type 0} (b c : Bool) (x y : X) (xs ys : List X) → b ≡ c → length xs ≡ length ys → length (cond b (x ∷ xs) xs) ≡ length (cond c (y ∷ ys) ys)
marked_step true true x y xs ys e l = omega (arith, l)
marked_step false false x y xs ys e l = l
marked_step true false x y xs ys e l = absurd (cc)
marked_step false true x y xs ys e l = absurd (cc)

marked : {X : Type 0} (t : X → Bool) (f : X → X) → ((x : X) → t (f x) ≡ t x) → (xs : List X) → length (filter t (map f xs)) ≡ length (filter t xs)
marked t f h [] = refl
marked t f h (x ∷ xs) = marked_step (t (f x)) (t x) (f x) x (filter t (map f xs)) (filter t xs) (h x) (marked t f h xs)

same : (n : ℕ) → n ≤ n
same n = omega arith

as_many : (n m : ℕ) → n ≡ m → n ≤ m
as_many n m e = omega (arith, e)

kept_all : (s t : StationState) → t.readings ≡ s.readings → t.zone ≡ s.zone → IsFewer s t
kept_all s t e z = record {
  all = as_many (length t.readings) (length s.readings) (ap (λ (rs : List Reading). length rs) e);
  days = λ day. as_many _ _ (rw (e, z) refl);
}

pub fewer : (what : What) (s : StationState) → ((readings : List Reading) → what ≡ PutReadings readings → ⊥) → IsFewer s (station_after what s)
fewer (PutReadings readings) s n = absurd (n readings refl)
fewer (DropReadings from to) s n =
    let out : Reading → Bool = λ r. not (is_within from to r) in
    record {
      all = fewer_kept out s.readings;
      days = λ day.
          let own : Reading → Bool = is_of_day (day_start s day) (day_start s (day +ℤ pos 1)) in
          let swapped = ap length (filters_swapped own out s.readings) in
          let few = fewer_kept out (filter own s.readings) in
          omega (arith, swapped, few);
    }
fewer (FlagReadings from to flag) s n =
    let f : Reading → Reading = λ r. flagged_where (is_within from to r) flag r in
    record {
      all = as_many _ _ (length-map s.readings f);
      days = λ day. as_many _ _ (marked (is_of_day (day_start s day) (day_start s (day +ℤ pos 1))) f (λ r. refl) s.readings);
    }
fewer _ s n = kept_all s _ refl refl
