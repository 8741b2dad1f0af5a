-- What an edit makes of the station of its site, and whether it keeps a day of it.
use Rattle.std.specs.Prelude.{◌≡◌, Bool, true, false, cond, List, [], ◌∷◌, Option, Some, None, option_map, ℕ, ℤ}
use Rattle.std.specs.Ordering.{int_eq}
use Rattle.std.proofs.Common.{refl, ap, sym, ◌∙◌, Bor}
use Rattle.std.proofs.lemmas.Bool.Decides.{Decides-int_eq}
use Rattle.fixed_units.specs.Quantities.{SiteNumber, site_place}
use Rattle.rising.proofs.Placing.{at_put}
use Rattle.rising.specs.Lists.{at, put}
use Rattle.day_inputs.specs.Equality.{same_inputs}
use Rattle.day_inputs.specs.declared.day_inputs.DayInputs.TheVariants.{Empty}
use Rattle.edits.specs.declared.content.What.{What}
use Rattle.edits.specs.declared.content.What.TheVariants.{AddStation}
use Rattle.edits.specs.declared.content.Edit.{Edit}
use Rattle.station_inputs.specs.Changes.{keeps_station_day}
use Rattle.station_inputs.specs.KeptStation.{KeptStation}
use Rattle.station_inputs.specs.Stations.{StationState, new_station, station_after, station_day}
use Rattle.office_inputs.specs.declared.refusals.Refusal.TheVariants.{NoStation, StationExists}
use Rattle.station_inputs.proofs.LawLemmas.{same_site}
use Rattle.office_inputs.specs.Changes.{keeps_day}
use Rattle.office_inputs.specs.Refusals.{refusal_of, adds_station}
use Rattle.office_inputs.specs.Stations.{added, after_what, changed_at, inputs_of_day, place_of, station_of, with_added, with_changed}
use Rattle.office_inputs.specs.declared.limits.Limits.{Limits}

-- the station of a site is of that site
at_step : {X : Type 0} (place : X → ℤ) (n : ℤ) (x y : X) (o : Option X) (b : Bool) → int_eq (place x) n ≡ b → cond b (Some x) o ≡ Some y
    → (o ≡ Some y → place y ≡ n) → place y ≡ n
at_step place n x y o true e f k = let same : x ≡ y = cc in ap place (sym same) ∙ (Decides-int_eq (place x) n).0 e
at_step place n x y o false e f k = k f

pub at_place : {X : Type 0} (place : X → ℤ) (n : ℤ) (xs : List X) (y : X) → at place n xs ≡ Some y → place y ≡ n
at_place place n [] y e = absurd (cc)
at_place place n (x ∷ xs) y e = at_step place n x y (at place n xs) (int_eq (place x) n) refl e (at_place place n xs y)

-- a station that is put is that of its site
pub put_there : (stations : List StationState) (site : SiteNumber) (s : StationState) → place_of s ≡ site_place site
    → station_of (put place_of s stations) site ≡ Some s
put_there stations site s e =
    ap (λ (n : ℤ). at place_of n (put place_of s stations)) (sym e) ∙ at_put place_of s stations

-- a station stays in its place through every edit of it
pub same_place : (what : What) (s : StationState) → place_of (station_after what s) ≡ place_of s
same_place what s = ap site_place (same_site what s)

pub place_after : (what : What) (s t : StationState) → t ≡ station_after what s → place_of t ≡ place_of s
place_after what s t e = ap place_of e ∙ same_place what s

-- every kind that adds no station changes one that is there
pub adds_not : (what : What)
    → ((name zone : List ℕ) (gap : ℕ) (stages discharges : List ℕ) → what ≡ AddStation name zone gap stages discharges → ⊥) → adds_station what ≡ false
adds_not (AddStation name zone gap stages discharges) n = absurd (n name zone gap stages discharges refl)
adds_not _ n = refl

pub added_none : (site : SiteNumber) (what : What) → adds_station what ≡ false → added site what ≡ None
added_none site (AddStation name zone gap stages discharges) e = absurd (cc)
added_none site _ e = refl

pub only_changed : (site : SiteNumber) (what : What) (stations : List StationState) → adds_station what ≡ false
    → after_what site what stations ≡ changed_at site (station_after what) stations
only_changed site what stations e = ap (λ (o : Option StationState). with_added site what o stations) (added_none site what e)

-- and leaves it as the edit makes it
pub changed_there : (stations : List StationState) (site : SiteNumber) (what : What) (s : StationState) → adds_station what ≡ false
    → station_of stations site ≡ Some s → station_of (after_what site what stations) site ≡ Some (station_after what s)
changed_there stations site what s a e =
    ap (λ (ss : List StationState). station_of ss site) (only_changed site what stations a)
    ∙ ap (λ (o : Option StationState). station_of (with_changed (station_after what) o stations) site) e
    ∙ put_there stations site (station_after what s) (same_place what s ∙ at_place place_of (site_place site) stations s e)

-- so it keeps a day of its site where it keeps that day of the station
told_days : (stations after : List StationState) (site : SiteNumber) (day : ℤ) (s t : StationState) → station_of stations site ≡ Some s → station_of after site ≡ Some t
    → same_inputs (station_day s day) (station_day t day) ≡ same_inputs (inputs_of_day stations site day) (inputs_of_day after site day)
told_days stations after site day s t e f = rw (e, f) refl

pub change_told : (stations : List StationState) (edit : Edit) (s : StationState) (day : ℤ) → adds_station edit.what ≡ false
    → station_of stations edit.site ≡ Some s → keeps_station_day s edit.what day ≡ keeps_day stations edit day
change_told stations edit s day a e =
    told_days stations (after_what edit.site edit.what stations) edit.site day s (station_after edit.what s) e
    (changed_there stations edit.site edit.what s a e)

none_some : {X : Type 0} {x : X} → None ≡ Some x → ⊥
none_some e = absurd (cc)

-- an edit of a site that is not kept adds it, and keeps each day: a new station's days have no inputs
new_day : (site : SiteNumber) (name zone : List ℕ) (gap : ℕ) (stages discharges : List ℕ) (day : ℤ)
    → station_day (new_station site name zone gap stages discharges) day ≡ Empty
new_day site name zone gap stages discharges day = refl

added_step : (stations : List StationState) (site : SiteNumber) (day : ℤ) (n : StationState) → station_of stations site ≡ None → place_of n ≡ site_place site
    → station_day n day ≡ Empty → same_inputs (inputs_of_day stations site day) (inputs_of_day (put place_of n stations) site day) ≡ true
added_step stations site day n e p d = let f = put_there stations site n p in rw (e, f, d) refl

added_keeps : (stations : List StationState) (site : SiteNumber) (what : What) (day : ℤ) → adds_station what ≡ true → station_of stations site ≡ None
    → same_inputs (inputs_of_day stations site day) (inputs_of_day (after_what site what stations) site day) ≡ true
added_keeps stations site (AddStation name zone gap stages discharges) day a e =
    added_step stations site day (new_station site name zone gap stages discharges) e refl (new_day site name zone gap stages discharges day)
added_keeps stations site _ day a e = absurd (cc)

needed : (limits : Limits) (stations : List StationState) (edit : Edit) → adds_station edit.what ≡ false → station_of stations edit.site ≡ None
    → refusal_of limits stations edit ≡ Some NoStation
needed limits stations edit a e = rw (a, e) refl

add_step : (limits : Limits) (stations : List StationState) (edit : Edit) (day : ℤ) (b : Bool) → adds_station edit.what ≡ b
    → refusal_of limits stations edit ≡ None → station_of stations edit.site ≡ None → keeps_day stations edit day ≡ true
add_step limits stations edit day true a r e = added_keeps stations edit.site edit.what day a e
add_step limits stations edit day false a r e = absurd (none_some (sym r ∙ needed limits stations edit a e))

pub add_told : (limits : Limits) (stations : List StationState) (edit : Edit) (day : ℤ) → refusal_of limits stations edit ≡ None
    → station_of stations edit.site ≡ None → keeps_day stations edit day ≡ true
add_told limits stations edit day r e = add_step limits stations edit day (adds_station edit.what) refl r e

-- the state of a station that was found
pub lent_is : (found : Option (Bor KeptStation)) (kept : Option StationState) (s : Bor KeptStation) → option_map (λ (s : Bor KeptStation). s.now.station) found ≡ kept
    → found ≡ Some s → kept ≡ Some s.now.station
lent_is found kept s e f = sym e ∙ ap (option_map (λ (s : Bor KeptStation). s.now.station)) f

pub lent_none : (found : Option (Bor KeptStation)) (kept : Option StationState) → option_map (λ (s : Bor KeptStation). s.now.station) found ≡ kept
    → ((s : Bor KeptStation) → found ≡ Some s → ⊥) → kept ≡ None
lent_none None kept e n = sym e
lent_none (Some s) kept e n = absurd (n s refl)

-- an edit of a station that is kept and that is not refused adds none
already : (limits : Limits) (stations : List StationState) (edit : Edit) (s : StationState) → adds_station edit.what ≡ true → station_of stations edit.site ≡ Some s
    → refusal_of limits stations edit ≡ Some StationExists
already limits stations edit s a e = rw (a, e) refl

adds_step : (limits : Limits) (stations : List StationState) (edit : Edit) (s : StationState) (b : Bool) → adds_station edit.what ≡ b
    → refusal_of limits stations edit ≡ None → station_of stations edit.site ≡ Some s → adds_station edit.what ≡ false
adds_step limits stations edit s false a r e = a
adds_step limits stations edit s true a r e = absurd (none_some (sym r ∙ already limits stations edit s a e))

pub adds_none : (limits : Limits) (stations : List StationState) (edit : Edit) (s : StationState) → refusal_of limits stations edit ≡ None
    → station_of stations edit.site ≡ Some s → adds_station edit.what ≡ false
adds_none limits stations edit s r e = adds_step limits stations edit s (adds_station edit.what) refl r e
