-- Where the station of a site stands, among the states in force and among the stations that are kept.
use Rattle.std.specs.Prelude.{◌≡◌, ℕ, zero, suc, ◌<◌, List, [], ◌∷◌, length, slice_get, slice_set, option_map, Option, Some, None, IfSome, IfNone, ℤ, ◌<ℤ◌, ◌≤ℤ◌, int_lt, true, false}
use Rattle.std.proofs.Common.{arith, refl, ap, sym, subst, ◌∙◌, get_or}
use Rattle.std.proofs.lemmas.Int.{ints}
use Rattle.std.proofs.lemmas.List.{length-map}
use Rattle.std.proofs.lemmas.List.Elements.{All-weaker}
use Rattle.std.proofs.lemmas.Option.{get_or_from_slice_get}
use Rattle.fixed_units.specs.Quantities.{SiteNumber, site_place}
use Rattle.rising.specs.Lists as lists
use Rattle.rising.proofs.Parting.{IsAfter, lt_yes, lt_no, all_after}
use Rattle.rising.proofs.Placing.{some_stands, passed_over}
use Rattle.rising.proofs.Splitting.{none_before, rest_rises, rest_is_later}
use Rattle.station_inputs.specs.KeptStation.{KeptStation}
use Rattle.office_inputs.specs.Kept.{states_of, kept_at, place_of_kept}
use Rattle.office_inputs.specs.Places.{Placed, IsPlace, IsPlaceOf, station_in}
use Rattle.office_inputs.specs.Stations.{station_of, place_of}
use Rattle.station_inputs.specs.Stations.{StationState}
use Rattle.office_inputs.proofs.InputsLemmas.{state_at}
use Rattle.office_inputs.proofs.KeepLemmas.{at_place}
use Rattle.office_inputs.proofs.RoomLemmas.{StandsAt}

abbrev state_of : Option KeptStation → Option StationState
state_of o = option_map (λ (k : KeptStation). k.station) o

states_get : (kept : List KeptStation) (i : ℕ) → slice_get (states_of kept) i ≡ state_of (slice_get kept i)
states_get [] i = refl
states_get (k ∷ kept) zero = refl
states_get (k ∷ kept) (suc i) = states_get kept i

-- what a search among the stations that are kept finds is the place of the site
pub found_place : (kept : List KeptStation) (site : SiteNumber) (found : Option ℕ) → IfSome found (λ i. kept_at kept site ≡ slice_get kept i)
    → IfSome found (λ i. i < length kept) → IfNone found (kept_at kept site ≡ None) → IsPlaceOf (states_of kept) site (record { site = site; index = found })
found_place kept site None f w n = (refl, record { within = tt; found = state_at kept site ∙ ap state_of n })
found_place kept site (Some i) f w n = (
  refl,
  record {
    within = (let l = length-map kept (λ (k : KeptStation). k.station) in omega arith);
    found = state_at kept site ∙ ap state_of f ∙ sym (states_get kept i);
  },
)

module _ {X : Type 0} (place : X → ℤ) where
  -- in a rising list an element is found at its number, and one of its number is put by writing it over
  later_at : (y : X) (ys : List X) (i : ℕ) (d : X) → lists.IsRising place (y ∷ ys) → i < length ys → place y <ℤ place (get_or ys i d)
  later_at y ys i d r l = r 0 (suc i) d (omega arith) (omega arith)

  at_index : (xs : List X) (i : ℕ) (d : X) → lists.IsRising place xs → i < length xs → lists.at place (place (get_or xs i d)) xs ≡ Some (get_or xs i d)
  at_index [] i d r l = absurd (omega arith)
  at_index (y ∷ ys) zero d r l = some_stands place (place y) y ys refl
  at_index (y ∷ ys) (suc i) d r l =
      let later = later_at y ys i d r (omega arith) in
      passed_over place (place (get_or ys i d)) y ys (λ k. omega (arith, ints, later, k)) ∙ at_index ys i d (rest_rises place y ys r) (omega arith)

  written_over : (xs : List X) (i : ℕ) (z : X) → lists.IsRising place xs → i < length xs → place (get_or xs i z) ≡ place z → slice_set xs i z ≡ lists.put place z xs
  written_over [] i z r l e = absurd (omega arith)
  written_over (y ∷ ys) zero z r l e =
      let behind = All-weaker (IsAfter place (place y)) (IsAfter place (place z)) (λ x k. omega (arith, ints, k, e)) ys (rest_is_later place y ys r) in
      let a : int_lt (place y) (place z) ≡ false = lt_no (place y) (place z) (omega (arith, ints, e)) in
      let b : int_lt (place z) (place y) ≡ false = lt_no (place z) (place y) (omega (arith, ints, e)) in
      let c = none_before place (place z) ys (All-weaker (IsAfter place (place z)) (λ x. place z ≤ℤ place x) (λ x k. omega (arith, ints, k)) ys behind) in
      let d = all_after place (place z) ys behind in
      rw (a, b, c, d) refl
  written_over (y ∷ ys) (suc i) z r l e =
      let later = later_at y ys i z r (omega arith) in
      let a : int_lt (place y) (place z) ≡ true = lt_yes (place y) (place z) (omega (arith, ints, later, e)) in
      let b : int_lt (place z) (place y) ≡ false = lt_no (place z) (place y) (omega (arith, ints, later, e)) in
      let rest = written_over ys i z (rest_rises place y ys r) (omega arith) e in
      rw (a, b) (ap (λ (xs : List X). y ∷ xs) rest)

some_station : (kept : List KeptStation) (i : ℕ) → i < length kept → (k : KeptStation) × (get_or kept i k ≡ k) × (slice_get kept i ≡ Some k)
some_station [] i l = absurd (omega arith)
some_station (k ∷ kept) zero l = (k, refl, refl)
some_station (k ∷ kept) (suc i) l = some_station kept i (omega arith)

pub index_within : (kept : List KeptStation) (place : Placed) (i : ℕ) → IsPlace (states_of kept) place → place.index ≡ Some i → i < length kept
index_within kept place i p e =
    let w : IfSome (Some i) (λ i. i < length (states_of kept)) = subst (λ (o : Option ℕ). IfSome o (λ i. i < length (states_of kept))) e p.within in
    let l = length-map kept (λ (k : KeptStation). k.station) in
    omega arith

-- the station at the place stands there
pub stands : (kept : List KeptStation) (place : Placed) (i : ℕ) → lists.IsRising place_of_kept kept → IsPlace (states_of kept) place → place.index ≡ Some i
    → StandsAt place.site i kept
stands kept place i r p e =
    let within = index_within kept place i p e in
    let s = some_station kept i within in
    let there : station_of (states_of kept) place.site ≡ Some s.0.station =
    p.found ∙ ap (station_in (states_of kept)) e ∙ states_get kept i ∙ ap state_of s.2 in
    let n : place_of_kept s.0 ≡ site_place place.site = at_place place_of (site_place place.site) (states_of kept) s.0.station there in
    record {
      within = within;
      found =
          ap (λ (m : ℤ). lists.at place_of_kept m kept) (sym n ∙ ap place_of_kept (sym s.1)) ∙ at_index place_of_kept kept i s.0 r within
          ∙ ap Some s.1 ∙ sym s.2;
      written = λ z f. written_over place_of_kept kept i z r within (ap place_of_kept (get_or_from_slice_get kept i s.0 z s.2) ∙ n ∙ sym f);
    }

-- where no station stands none is kept
none_kept : (o : Option KeptStation) → state_of o ≡ None → o ≡ None
none_kept None e = refl
none_kept (Some k) e = absurd (cc)

pub none_stands : (kept : List KeptStation) (place : Placed) → IsPlace (states_of kept) place → place.index ≡ None → station_of (states_of kept) place.site ≡ None
none_stands kept place p e = p.found ∙ ap (station_in (states_of kept)) e

pub not_kept : (kept : List KeptStation) (place : Placed) → IsPlace (states_of kept) place → place.index ≡ None → kept_at kept place.site ≡ None
not_kept kept place p e = none_kept (kept_at kept place.site) (sym (state_at kept place.site) ∙ none_stands kept place p e)

pub no_room_asked : (P : KeptStation → Type 0) (kept : List KeptStation) (place : Placed) → IsPlace (states_of kept) place → place.index ≡ None
    → IfSome (kept_at kept place.site) P
no_room_asked P kept place p e = subst (λ (o : Option KeptStation). IfSome o P) (sym (not_kept kept place p e)) tt
