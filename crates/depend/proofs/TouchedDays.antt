-- The days that an edit can change, told of its station alone, and that they are of its interval.
use Rattle.std.specs.Prelude.{◌≡◌, Bool, true, false, not, ◌&&◌, ◌||◌, List, [], Option, Some, None, ℤ, pos, ◌+ℤ◌, int_le}
use Rattle.std.proofs.Common.{arith, refl, ap, ◌∙◌}
use Rattle.std.proofs.lemmas.Bool.Decides.{Decides-int_eq}
use Rattle.std.proofs.lemmas.Int.{ints}
use Rattle.fixed_units.specs.Quantities.{IsDay, SiteNumber}
use Rattle.fixed_units.proofs.CalendarLemmas.{calendar_any, calendar_none}
use Rattle.edits.specs.declared.content.Edit.{Edit}
use Rattle.edits.specs.declared.content.What.{What}
use Rattle.office_inputs.specs.Stations.{day_of_station, station_of}
use Rattle.office_inputs.specs.Touched.{in_reach, interval, is_between_filled, is_filled, meets, meets_day, touched_by, touched_of}
use Rattle.station_inputs.specs.Stations.{StationState, day_start, station_day}
use Rattle.station_inputs.specs.Touched.{has_inputs, touched_at}
use Rattle.station_inputs.specs.declared.touched.Touched.{Touched}
use Rattle.station_inputs.specs.declared.touched.Touched.TheVariants.{Nothing, One, Between, Cells}

-- a day meets the time between two instants
abbrev pub meets_at : StationState → ℤ → ℤ → ℤ → Bool
meets_at s first last day = meets first last (day_start s day) (day_start s (day +ℤ pos 1))

-- it is one that can change where this is touched: of those that have inputs alone where the edit changes no others
abbrev pub IsTouchedDay : StationState → Touched → ℤ → Type 0
IsTouchedDay s Nothing day = ⊥
IsTouchedDay s (One own) day = own ≡ day
IsTouchedDay s (Between first last cells_only) day = (meets_at s first last day ≡ true) × (cells_only ≡ true → has_inputs (station_day s day) ≡ true)
IsTouchedDay s Cells day = has_inputs (station_day s day) ≡ true

-- a day that has inputs lies between two that have
self_le : (b : Bool) (day : ℤ) → b ≡ true → (int_le day day && b) ≡ true
self_le b day h = rw h (grind (arith, ints))

both_true : (b c : Bool) → b ≡ true → c ≡ true → (b && c) ≡ true
both_true b c e f = rw (e, f) refl

filled_between : (stations : List StationState) (site : SiteNumber) (day : ℤ) → IsDay day → is_filled stations site day ≡ true → is_between_filled stations site day ≡ true
filled_between stations site day d h =
    both_true _ _
    (calendar_any (λ earlier. int_le earlier day && is_filled stations site earlier) day d (self_le (is_filled stations site day) day h))
    (calendar_any (λ later. int_le day later && is_filled stations site later) day d (self_le (is_filled stations site day) day h))

own_filled : (stations : List StationState) (site : SiteNumber) (s : StationState) (day : ℤ) → station_of stations site ≡ Some s → IsDay day
    → has_inputs (station_day s day) ≡ true → is_between_filled stations site day ≡ true
own_filled stations site s day e d h =
    filled_between stations site day d (ap (λ (o : Option StationState). has_inputs (day_of_station o day)) e ∙ h)

asked : (b c : Bool) → (b ≡ true → c ≡ true) → (not b || c) ≡ true
asked true c h = h refl
asked false c h = refl

-- and so it is of the interval
pub of_interval : (stations : List StationState) (site : SiteNumber) (s : StationState) (touched : Touched) (day : ℤ) → station_of stations site ≡ Some s → IsDay day
    → IsTouchedDay s touched day → in_reach stations site touched day ≡ true
of_interval stations site s Nothing day e d h = absurd h
of_interval stations site s (One own) day e d h = (Decides-int_eq own day).1 h
of_interval stations site s (Between first last cells_only) day e d h =
    both_true (meets_day first last (station_of stations site) day) (not cells_only || is_between_filled stations site day)
    (ap (λ (o : Option StationState). meets_day first last o day) e ∙ h.0)
    (asked cells_only (is_between_filled stations site day) (λ t. own_filled stations site s day e d (h.1 t)))
of_interval stations site s Cells day e d h = own_filled stations site s day e d h

-- what touches nothing of any station has no day in its interval
none_touched : (o : Option StationState) (what : What) → ((s : StationState) → touched_at s what ≡ Nothing) → touched_by o what ≡ Nothing
none_touched None what h = refl
none_touched (Some s) what h = h s

pub no_interval : (stations : List StationState) (edit : Edit) (what : What) → edit.what ≡ what → ((s : StationState) → touched_at s what ≡ Nothing)
    → interval stations edit ≡ []
no_interval stations edit what e h =
    let nothing : touched_of stations edit ≡ Nothing =
    ap (touched_by (station_of stations edit.site)) e ∙ none_touched (station_of stations edit.site) what h in
    calendar_none (in_reach stations edit.site (touched_of stations edit)) (λ d k. ap (λ (t : Touched). in_reach stations edit.site t d) nothing)
