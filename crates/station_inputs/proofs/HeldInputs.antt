-- A day has these inputs exactly where each part of them is that of the station.
use Rattle.std.specs.Prelude.{◌≡◌, ◌↔◌, ◌*◌, ◌&&◌, Bool, true, false, not, List, [], ◌∷◌, filter, is_none, Option, Some, None, ℤ, pos, ◌+ℤ◌}
use Rattle.std.proofs.Common.{refl, ap, sym, subst, ◌∙◌}
use Rattle.fixed_units.specs.declared.readings.Reading.{Reading}
use Rattle.readings.specs.Readings.{is_used}
use Rattle.readings.specs.Window.{if_some, inner, of_day, with_neighbours, neighbour_before, neighbour_after, window_before, window_after}
use Rattle.readings.specs.Equality.{same_readings}
use Rattle.readings.proofs.EqualityLemmas.{lists_decide}
use Rattle.readings.proofs.WindowParts.{inner_found}
use Rattle.day_inputs.specs.DayInputs.{window_ends}
use Rattle.day_inputs.specs.declared.day_inputs.DayInputs.TheVariants.{Empty, Day}
use Rattle.day_inputs.specs.declared.day_inputs.DayParts.{DayParts}
use Rattle.day_inputs.proofs.RulesLemmas.{rules_told, rules_are}
use Rattle.day_inputs.proofs.WindowEnds.{by_ends, no_inputs, parts_with}
use Rattle.station_inputs.specs.Stations.{StationState, estimated_discharge, least_cover, station_day, station_window, day_start}
use Rattle.station_inputs.specs.Held.{HasBounds, HasContents, HasSettings}
use Rattle.station_inputs.specs.KeptStation.{KeptStation}

-- the parts are those of the station, and there is a window or an estimate
abbrev pub is_some_day : DayParts → Bool
is_some_day p = not (is_none (window_ends p.window) && is_none p.estimate)

pub record HasParts (s : StationState) (day : ℤ) (p : DayParts) : Type 0 where
  pub some : is_some_day p ≡ true
  pub frame : HasSettings s p × HasBounds s day p
  pub contents : HasContents s day p

not_true : (b : Bool) → not b ≡ true → b ≡ false
not_true true h = absurd (cc)
not_true false h = refl

pub parts_are : (s : StationState) (day : ℤ) (p : DayParts) → HasParts s day p → Day p ≡ station_day s day
parts_are s day p h =
    let w = station_window s day in
    let q = estimated_discharge s day in
    let some : (is_none (window_ends w) && is_none q) ≡ false = rw (sym h.contents.1, sym h.contents.0) (not_true _ h.some) in
    ap Day (rules_are s.gap s.stage_array s.discharge_array (day_start s day) (day_start s (day +ℤ pos 1)) s.corrections s.shifts s.ratings q (least_cover s day) p w
    (sym h.frame.0.0) (sym h.frame.0.1) (sym h.frame.0.2) h.frame.1.0 h.frame.1.1 h.contents.1 h.contents.0 h.contents.2)
    ∙ by_ends s.gap s.stage_array s.discharge_array (day_start s day) (day_start s (day +ℤ pos 1)) s.corrections s.shifts s.ratings q (least_cover s day) w some

-- and back: a day that has inputs has a window or an estimate
abbrev is_bare : StationState → ℤ → Bool
is_bare s day = is_none (window_ends (station_window s day)) && is_none (estimated_discharge s day)

abbrev parts_of : StationState → ℤ → DayParts
parts_of s day =
    parts_with s.gap s.stage_array s.discharge_array (day_start s day) (day_start s (day +ℤ pos 1)) s.corrections s.shifts s.ratings
    (estimated_discharge s day) (least_cover s day) (station_window s day) (window_ends (station_window s day))

none_of : {A B : Type 0} (o : Option A) (q : Option B) → (is_none o && is_none q) ≡ true → (o ≡ None) × (q ≡ None)
none_of None None h = (refl, refl)
none_of None (Some q) h = absurd (cc)
none_of (Some o) q h = absurd (cc)

day_back : (q r : DayParts) → Day q ≡ Day r → q ≡ r
day_back q r e = cc

not_day : (q : DayParts) → Day q ≡ Empty → ⊥
not_day q e = absurd (cc)

held_step : (s : StationState) (day : ℤ) (p : DayParts) (bare : Bool) → is_bare s day ≡ bare → Day p ≡ station_day s day → (p ≡ parts_of s day) × (is_bare s day ≡ false)
held_step s day p false n e =
    let k = by_ends s.gap s.stage_array s.discharge_array (day_start s day) (day_start s (day +ℤ pos 1)) s.corrections s.shifts s.ratings (estimated_discharge s day) (least_cover s day) (station_window s day) n in
    (day_back p (parts_of s day) (e ∙ sym k), n)
held_step s day p true n e =
    let both = none_of (window_ends (station_window s day)) (estimated_discharge s day) n in
    let k = no_inputs s.gap s.stage_array s.discharge_array (day_start s day) (day_start s (day +ℤ pos 1)) s.corrections s.shifts s.ratings (estimated_discharge s day) (least_cover s day) (station_window s day) both.0 both.1 in
    absurd (not_day p (e ∙ sym k))

pub parts_held : (s : StationState) (day : ℤ) (p : DayParts) → Day p ≡ station_day s day → HasParts s day p
parts_held s day p e =
    let both = held_step s day p (is_bare s day) refl e in
    let k = both.0 in
    record {
      some = rw k (ap not both.1);
      frame = (
        (sym (ap (λ (x : DayParts). x.gap) k), sym (ap (λ (x : DayParts). x.stage_array) k), sym (ap (λ (x : DayParts). x.discharge_array) k)),
        (ap (λ (x : DayParts). x.from) k, ap (λ (x : DayParts). x.until) k),
      );
      contents = (
        ap (λ (x : DayParts). x.estimate) k,
        ap (λ (x : DayParts). x.window) k,
        rules_told s.gap s.stage_array s.discharge_array (day_start s day) (day_start s (day +ℤ pos 1)) s.corrections s.shifts s.ratings (estimated_discharge s day) (least_cover s day) p (station_window s day) k,
      );
    }

-- tests of them one after another tell
pub told_both : (s : StationState) (day : ℤ) (p : DayParts) (contents : Bool) → is_some_day p ≡ true → HasSettings s p × HasBounds s day p
    → contents ≡ true ↔ HasContents s day p → contents ≡ true ↔ Day p ≡ station_day s day
told_both s day p contents some frame h =
    (λ k. parts_are s day p (record { some = some; frame = frame; contents = h.0 k }), λ e. h.1 (parts_held s day p e).contents)

pub told_other : (s : StationState) (day : ℤ) (p : DayParts) → (HasParts s day p → ⊥) → false ≡ true ↔ Day p ≡ station_day s day
told_other s day p n = (λ k. absurd (cc), λ e. absurd (n (parts_held s day p e)))

-- the neighbours that count, about the used ones of a day's readings, are its window
pub those_that_count : (u : List Reading) (before after : Option Reading) → with_neighbours (if_some u before) u (if_some u after) ≡ with_neighbours before u after
those_that_count [] before after = refl
those_that_count (r ∷ rs) before after = refl

pub lent_window : (s : StationState) (day from until : ℤ) (before after : Option Reading) (rs : List Reading)
    → from ≡ day_start s day → until ≡ day_start s (day +ℤ pos 1)
    → before ≡ window_before from until (pos (60 * s.gap)) s.readings → rs ≡ of_day from until s.readings
    → after ≡ window_after from until (pos (60 * s.gap)) s.readings
    → with_neighbours before (filter is_used rs) after ≡ station_window s day
lent_window s day from until before after rs e f b i a =
    let used : filter is_used rs ≡ inner from until s.readings = ap (filter is_used) i ∙ inner_found from until s.readings in
    rw (b, used, a)
    (those_that_count (inner from until s.readings) (neighbour_before from (pos (60 * s.gap)) s.readings) (neighbour_after until (pos (60 * s.gap)) s.readings)
    ∙ rw (e, f) refl)

-- so a test of what is lent tells whether a list is the window
abbrev WindowTold : ℤ → ℤ → ℤ → Option Reading → Option Reading → List Reading → List Reading → Bool → KeptStation → KeptStation → Type 0
WindowTold day from until before after rs list told view kept =
    from ≡ day_start kept.station day → until ≡ day_start kept.station (day +ℤ pos 1)
    → before ≡ window_before from until (pos (60 * view.station.gap)) view.station.readings → rs ≡ of_day from until view.station.readings
    → after ≡ window_after from until (pos (60 * view.station.gap)) view.station.readings
    → told ≡ same_readings (with_neighbours before (filter is_used rs) after) list
    → told ≡ true ↔ list ≡ station_window kept.station day

window_found : (s : StationState) (day from until : ℤ) (before after : Option Reading) (rs list : List Reading) (told : Bool)
    → from ≡ day_start s day → until ≡ day_start s (day +ℤ pos 1)
    → before ≡ window_before from until (pos (60 * s.gap)) s.readings → rs ≡ of_day from until s.readings
    → after ≡ window_after from until (pos (60 * s.gap)) s.readings
    → told ≡ same_readings (with_neighbours before (filter is_used rs) after) list → told ≡ true ↔ list ≡ station_window s day
window_found s day from until before after rs list told e f b i a t =
    let w = lent_window s day from until before after rs e f b i a in
    let d = lists_decide (with_neighbours before (filter is_used rs) after) list in
    (λ k. sym (d.0 (sym t ∙ k)) ∙ w, λ k. t ∙ d.1 (w ∙ sym k))

pub window_kept : (kept view : KeptStation) → view ≡ kept → (day from until : ℤ) (before after : Option Reading) (rs list : List Reading) (told : Bool)
    → WindowTold day from until before after rs list told view kept
window_kept kept view e day from until before after rs list told =
    subst (λ (k : KeptStation). WindowTold day from until before after rs list told view k) e
    (window_found view.station day from until before after rs list told)
