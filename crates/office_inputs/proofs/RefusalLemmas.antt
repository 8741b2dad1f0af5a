-- What follows from an edit that is not refused.
use Rattle.std.specs.Prelude.{◌≡◌, Bool, true, false, not, ◌&&◌, cond, List, Option, Some, None, is_some, option_map}
use Rattle.std.proofs.Common.{refl, ap, sym, ◌∙◌}
use Rattle.edits.specs.declared.content.Edit.{Edit}
use Rattle.station_inputs.specs.KeptStation.{KeptStation}
use Rattle.office_inputs.specs.Kept.{states_of, kept_at}
use Rattle.office_inputs.specs.Refusals.{refusal_of, adds_station, is_kept, obstacle_of, passed_limit, refusal_by, refusal_for, reading_count}
use Rattle.station_inputs.specs.Counts.{passes}
use Rattle.office_inputs.specs.Stations.{station_of, stations_after}
use Rattle.station_inputs.specs.Stations.{StationState}
use Rattle.station_inputs.specs.declared.obstacles.Obstacle.{Obstacle}
use Rattle.office_inputs.specs.declared.limits.Limits.{Limits}
use Rattle.office_inputs.specs.declared.refusals.Refusal.{Refusal}
use Rattle.office_inputs.specs.declared.refusals.Refusal.TheVariants.{NoStation, StationExists}
use Rattle.office_inputs.specs.declared.refusals.Which.{Which}
use Rattle.office_inputs.specs.declared.refusals.Which.TheVariants as counts
use Rattle.office_inputs.proofs.InputsLemmas.{state_at}

pub some_none : {X : Type 0} {x : X} → Some x ≡ None → ⊥
some_none e = absurd (cc)

-- a refusal in order: none of the conditions holds where there is none
first_off : (b : Bool) (r : Refusal) (o : Option Refusal) → cond b (Some r) o ≡ None → (b ≡ false) × (o ≡ None)
first_off true r o e = absurd (some_none e)
first_off false r o e = (refl, e)

unmapped : (o : Option Obstacle) → option_map refusal_for o ≡ None → o ≡ None
unmapped None e = refl
unmapped (Some x) e = absurd (some_none e)

both_none : (limit : Option Which) (obstacle : Option Refusal) → refusal_by limit obstacle ≡ None → (limit ≡ None) × (obstacle ≡ None)
both_none None obstacle e = (refl, e)
both_none (Some w) obstacle e = absurd (some_none e)

first_which : (b : Bool) (w : Which) (o : Option Which) → cond b (Some w) o ≡ None → (b ≡ false) × (o ≡ None)
first_which true w o e = absurd (some_none e)
first_which false w o e = (refl, e)

pub record IsAccepted (limits : Limits) (stations : List StationState) (edit : Edit) : Type 0 where
  pub needed : (not (adds_station edit.what) && not (is_kept stations edit.site)) ≡ false
  pub new : (adds_station edit.what && is_kept stations edit.site) ≡ false
  pub readings : passes limits.readings (reading_count stations) (reading_count (stations_after stations edit)) ≡ false
  pub free : obstacle_of (station_of stations edit.site) edit.what ≡ None

pub accepted : (limits : Limits) (stations : List StationState) (edit : Edit) → refusal_of limits stations edit ≡ None → IsAccepted limits stations edit
accepted limits stations edit e =
    let after = stations_after stations edit in
    let a = first_off (not (adds_station edit.what) && not (is_kept stations edit.site)) NoStation _ e in
    let b = first_off (adds_station edit.what && is_kept stations edit.site) StationExists _ a.1 in
    let w = both_none (passed_limit limits edit.site stations after) (option_map refusal_for (obstacle_of (station_of stations edit.site) edit.what)) b.1 in
    let c = first_which _ counts.Stations _ w.0 in
    let d = first_which (passes limits.readings (reading_count stations) (reading_count after)) counts.Readings _ c.1 in
    record { needed = a.0; new = b.0; readings = d.0; free = unmapped (obstacle_of (station_of stations edit.site) edit.what) w.1 }

both_off : (a b : Bool) → (a && b) ≡ false → a ≡ true → b ≡ false
both_off true b e f = e
both_off false b e f = absurd (cc)

none_kept : (o : Option KeptStation) → is_some (option_map (λ (k : KeptStation). k.station) o) ≡ false → o ≡ None
none_kept None e = refl
none_kept (Some k) e = absurd (cc)

-- an edit that adds a station is accepted where none is kept there
pub absent : (limits : Limits) (kept : List KeptStation) (edit : Edit) → refusal_of limits (states_of kept) edit ≡ None → adds_station edit.what ≡ true
    → kept_at kept edit.site ≡ None
absent limits kept edit e a =
    none_kept (kept_at kept edit.site)
    (ap is_some (sym (state_at kept edit.site)) ∙ both_off (adds_station edit.what) (is_kept (states_of kept) edit.site) (accepted limits (states_of kept) edit e).new a)
