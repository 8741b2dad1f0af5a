-- The computation sheet that is shown of a day.
use Rattle.std.specs.Prelude.{◌≡◌, ℕ, true, false, if◌then◌else◌, List, Option, Some, None, is_some, ℤ}
use Rattle.daily_values.specs.declared.day_values.DayValue.{DayValue}
use Rattle.fixed_units.specs.Quantities.{SiteNumber, same_site}
use Rattle.history.specs.Accepted.{record_numbered, stations_at}
use Rattle.history.specs.Awaited.{awaited, value_at}
use Rattle.history.specs.Events.{Event}
use Rattle.history.specs.Statuses.{standing_at, stored_sheet}
use Rattle.office_inputs.specs.Stations.{station_of}
use Rattle.records.specs.Sheets.{Record}
use Rattle.sheets.specs.Sheets.{sheet}

-- what is shown of a day
pub data Shown : Type 0 where
  NoStation : Shown
  Pending : ℕ → Shown
  Text : List ℕ → Shown

-- the edit that the day awaits, or else the sheet of its value, which is not approved
abbrev pub shown_by : SiteNumber → ℤ → Option ℕ → DayValue → Shown
shown_by site day None value = Text (sheet site day value false)
shown_by site day (Some edit) value = Pending edit

-- the sheet that is kept of an approved day goes before
abbrev pub kept_first : Option (List ℕ) → Shown → Shown
kept_first None shown = shown
kept_first (Some text) shown = Text text

abbrev pub shown_at : List Event → SiteNumber → ℤ → Shown
shown_at events site day =
    if is_some (station_of (stations_at events) site) then kept_first (stored_sheet events site day) (shown_by site day (awaited events site day) (value_at events site day))
    else NoStation

-- the sheet that is kept of a day is that of its value from scratch, of the inputs in force, under the site as the edit names it that
-- approved the day
pub record IsFromScratch (events : List Event) (site : SiteNumber) (day : ℤ) : Type 0 where
  pub approval : Record
  pub approved_by : record_numbered events (standing_at events site day).edit ≡ Some approval
  pub of_site : same_site approval.edit.site site ≡ true
  pub text : stored_sheet events site day ≡ Some (sheet approval.edit.site day (value_at events site day) true)
