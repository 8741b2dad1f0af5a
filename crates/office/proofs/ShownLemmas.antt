-- What the sheet that is shown of a day tells, whatever steps came before.
use Rattle.std.specs.Prelude.{◌≡◌, ℕ, Bool, true, false, cond, List, ◌++◌, Option, Some, None, is_some, ℤ}
use Rattle.std.proofs.Common.{ap, refl, subst, sym, inl, inr, ◌∙◌}
use Rattle.daily_values.specs.DayValue.{day_value}
use Rattle.daily_values.specs.declared.day_values.DayValue.{DayValue}
use Rattle.edits.specs.declared.content.Edit.{Edit}
use Rattle.fixed_units.specs.Quantities.{SiteNumber}
use Rattle.history.specs.Accepted.{edits_of}
use Rattle.history.specs.Awaited.{awaited, value_at}
use Rattle.history.specs.LastChanges.{ChangedLast}
use Rattle.history.specs.Sheets.{NoStation, Pending, Text, kept_first, shown_at, shown_by}
use Rattle.history.specs.Statuses.{stored_sheet}
use Rattle.history.proofs.LastChangeLemmas.{awaits_last_change}
use Rattle.office.specs.ShownSheets.{IsKeptOrMade}
use Rattle.office.specs.Steps.{GoesOver, Step, added}
use Rattle.office.proofs.CourseLemmas.{edits_after}
use Rattle.office_inputs.specs.Stations.{inputs_of_day, station_of, stations_of}
use Rattle.register.specs.Registered.{Registered}

module _ (site : SiteNumber) (day : ℤ) where
  text_by : (kept : Bool) (stored : Option (List ℕ)) (o : Option ℕ) (value : DayValue) (text : List ℕ)
      → cond kept (kept_first stored (shown_by site day o value)) NoStation ≡ Text text → IsKeptOrMade site day stored value text
  text_by true None None value text e = inr (refl, cc)
  text_by true None (Some edit) value text e = absurd (cc)
  text_by true (Some its) o value text e = let same : its ≡ text = cc in inl (ap Some same)
  text_by false stored o value text e = absurd (cc)

  pending_by : (kept : Bool) (stored : Option (List ℕ)) (o : Option ℕ) (value : DayValue) (number : ℕ)
      → cond kept (kept_first stored (shown_by site day o value)) NoStation ≡ Pending number → (stored ≡ None) × (o ≡ Some number)
  pending_by true None None value number e = absurd (cc)
  pending_by true None (Some edit) value number e = let same : edit ≡ number = cc in (refl, ap Some same)
  pending_by true (Some its) o value number e = absurd (cc)
  pending_by false stored o value number e = absurd (cc)

  missing_by : (kept : Bool) (stored : Option (List ℕ)) (o : Option ℕ) (value : DayValue)
      → cond kept (kept_first stored (shown_by site day o value)) NoStation ≡ NoStation → kept ≡ false
  missing_by true None None value e = absurd (cc)
  missing_by true None (Some edit) value e = absurd (cc)
  missing_by true (Some its) o value e = absurd (cc)
  missing_by false stored o value e = refl

  module _ (old new : Registered) (steps : List Step) (g : GoesOver old steps new) where
    pub text_shown : (text : List ℕ) → shown_at new.history.events site day ≡ Text text
        → IsKeptOrMade site day (stored_sheet new.history.events site day)
        (day_value (inputs_of_day (stations_of (edits_of old.history.events ++ added steps)) site day)) text
    text_shown text e =
        let events = new.history.events in
        subst (λ (l : List Edit). IsKeptOrMade site day (stored_sheet events site day) (day_value (inputs_of_day (stations_of l) site day)) text)
        (edits_after old steps new g)
        (text_by (is_some (station_of (stations_of (edits_of events)) site)) (stored_sheet events site day) (awaited events site day) (value_at events site day) text e)

    pub pending_shown : (number : ℕ) → shown_at new.history.events site day ≡ Pending number
        → (stored_sheet new.history.events site day ≡ None) × ChangedLast (edits_of old.history.events ++ added steps) site day number
    pending_shown number e =
        let events = new.history.events in
        let p = pending_by (is_some (station_of (stations_of (edits_of events)) site)) (stored_sheet events site day) (awaited events site day) (value_at events site day) number e in
        (p.0, subst (λ (l : List Edit). ChangedLast l site day number) (edits_after old steps new g) (awaits_last_change site day events number p.1))

    pub missing_shown : shown_at new.history.events site day ≡ NoStation
        → is_some (station_of (stations_of (edits_of old.history.events ++ added steps)) site) ≡ false
    missing_shown e =
        let events = new.history.events in
        ap (λ (l : List Edit). is_some (station_of (stations_of l) site)) (sym (edits_after old steps new g))
        ∙ missing_by (is_some (station_of (stations_of (edits_of events)) site)) (stored_sheet events site day) (awaited events site day) (value_at events site day) e
