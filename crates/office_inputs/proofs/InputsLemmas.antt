-- The stations that are kept, and their states in force.
use Rattle.std.specs.Prelude.{◌≡◌, Bool, true, false, cond, List, [], ◌∷◌, Option, Some, None, option_map}
use Rattle.std.specs.Ordering.{int_eq}
use Rattle.std.proofs.Common.{refl, ap, sym, subst, ◌∙◌, Bor}
use Rattle.fixed_units.specs.Quantities.{SiteNumber, site_place}
use Rattle.office_inputs.specs.Stations.{station_of}
use Rattle.station_inputs.specs.Stations.{StationState}
use Rattle.station_inputs.specs.KeptStation.{KeptStation}
use Rattle.office_inputs.specs.Kept.{InForce, in_force, states_of, kept_at, place_of_kept}

state_step : (k : KeptStation) (found : Option KeptStation) (told : Option StationState) (b : Bool)
    → told ≡ option_map (λ (k : KeptStation). k.station) found
    → cond b (Some k.station) told ≡ option_map (λ (k : KeptStation). k.station) (cond b (Some k) found)
state_step k found told true h = refl
state_step k found told false h = h

-- the state of a site is that of the station that is kept there
pub state_at : (kept : List KeptStation) (site : SiteNumber)
    → station_of (states_of kept) site ≡ option_map (λ (k : KeptStation). k.station) (kept_at kept site)
state_at [] site = refl
state_at (k ∷ kept) site =
    state_step k (kept_at kept site) (station_of (states_of kept) site) (int_eq (place_of_kept k) (site_place site)) (state_at kept site)

-- the same of a station that is lent
lent_state : (found : Option (Bor KeptStation)) (kept : Option KeptStation) → option_map (λ (s : Bor KeptStation). s.now) found ≡ kept
    → option_map (λ (s : Bor KeptStation). s.now.station) found ≡ option_map (λ (k : KeptStation). k.station) kept
lent_state None None e = refl
lent_state None (Some k) e = absurd (cc)
lent_state (Some s) None e = absurd (cc)
lent_state (Some s) (Some k) e = let f : s.now ≡ k = cc in ap (λ (k : KeptStation). Some k.station) f

abbrev FoundIn : SiteNumber → Option (Bor KeptStation) → InForce → InForce → Type 0
FoundIn site found view inputs =
    option_map (λ (s : Bor KeptStation). s.now) found ≡ kept_at view.kept site
    → option_map (λ (s : Bor KeptStation). s.now.station) found ≡ station_of (in_force inputs) site

pub found_state : (inputs view : InForce) → view ≡ inputs → (site : SiteNumber) (found : Option (Bor KeptStation)) → FoundIn site found view inputs
found_state inputs view e site found =
    subst (λ (i : InForce). FoundIn site found view i) e
    (λ h. lent_state found (kept_at view.kept site) h ∙ sym (state_at view.kept site))
