-- A station written over in its place.
use Rattle.std.specs.Prelude.{◌≡◌, ℕ, zero, suc, ◌<◌, List, [], ◌∷◌, length, slice_get, slice_set, slice_index_or, Option, Some, IfSome, ℤ}
use Rattle.std.proofs.Common.{arith, refl, ap, sym, subst, ◌∙◌}
use Rattle.fixed_units.specs.Quantities.{SiteNumber, site_place}
use Rattle.rising.specs.Lists.{at, put}
use Rattle.rising.proofs.Placing.{at_put}
use Rattle.rising.proofs.Selecting.{slice_get_at}
use Rattle.station_inputs.specs.KeptStation.{KeptStation}
use Rattle.station_inputs.specs.Stations.{StationState}
use Rattle.office_inputs.specs.Kept.{states_of, kept_at, place_of_kept}
use Rattle.office_inputs.proofs.KeepLemmas.{at_place}

cons_same : (x y : StationState) (xs ys : List StationState) → x ≡ y → xs ≡ ys → x ∷ xs ≡ y ∷ ys
cons_same x y xs ys e f = cc

-- the states are as before where the one written is
pub states_same : (kept : List KeptStation) (i : ℕ) (x y : KeptStation) → i < length kept → x ≡ slice_index_or kept i x → y.station ≡ x.station
    → states_of (slice_set kept i y) ≡ states_of kept
states_same [] i x y l e f = absurd (omega arith)
states_same (k ∷ kept) zero x y l e f = cons_same y.station k.station (states_of kept) (states_of kept) (f ∙ ap (λ (k : KeptStation). k.station) e) refl
states_same (k ∷ kept) (suc i) x y l e f =
    cons_same k.station k.station (states_of (slice_set kept i y)) (states_of kept) refl (states_same kept i x y (omega arith) e f)

-- the station in its place is that of the site
pub stands_at : (kept : List KeptStation) (site : SiteNumber) (i : ℕ) (x : KeptStation) → i < length kept → x ≡ slice_index_or kept i x
    → kept_at kept site ≡ slice_get kept i → kept_at kept site ≡ Some x
stands_at kept site i x l e f = f ∙ slice_get_at kept i x l (sym e)

-- the station of a site stands at a place of the list
pub record StandsAt (site : SiteNumber) (i : ℕ) (kept : List KeptStation) : Type 0 where
  pub within : i < length kept
  pub found : kept_at kept site ≡ slice_get kept i
  pub written : (z : KeptStation) → place_of_kept z ≡ site_place site → slice_set kept i z ≡ put place_of_kept z kept

-- a station of the site written over is found there
pub written_found : (kept : List KeptStation) (site : SiteNumber) (i : ℕ) (x y : KeptStation) → StandsAt site i kept → x ≡ slice_index_or kept i x
    → place_of_kept y ≡ place_of_kept x → kept_at (slice_set kept i y) site ≡ Some y
written_found kept site i x y h e p =
    let n : place_of_kept y ≡ site_place site = p ∙ at_place place_of_kept (site_place site) kept x (stands_at kept site i x h.within e h.found) in
    ap (λ (z : List KeptStation). kept_at z site) (h.written y n) ∙ ap (λ (m : ℤ). at place_of_kept m (put place_of_kept y kept)) (sym n) ∙ at_put place_of_kept y kept

pub room_there : (P : KeptStation → Type 0) (kept : List KeptStation) (site : SiteNumber) (y : KeptStation) → kept_at kept site ≡ Some y → P y → IfSome (kept_at kept site) P
room_there P kept site y e l = subst (λ (o : Option KeptStation). IfSome o P) (sym e) l

-- and where room was made the station there has it
pub room_here : (P : KeptStation → Type 0) (kept : List KeptStation) (site : SiteNumber) (i : ℕ) (x : KeptStation) → StandsAt site i kept → x ≡ slice_index_or kept i x
    → IfSome (kept_at kept site) P → P x
room_here P kept site i x h e r = subst (λ (o : Option KeptStation). IfSome o P) (stands_at kept site i x h.within e h.found) r
