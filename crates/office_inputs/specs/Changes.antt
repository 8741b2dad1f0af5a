-- The days that an edit changes: those of its site whose inputs differ before it and after it, of every day of the calendar.
use Rattle.std.specs.Prelude.{Bool, not, List, filter, ℤ}
use Rattle.day_inputs.specs.Equality.{same_inputs}
use Rattle.edits.specs.declared.content.Edit.{Edit}
use Rattle.fixed_units.specs.Calendar.{calendar}
use Rattle.office_inputs.specs.Stations.{stations_after, inputs_of_day}
use Rattle.station_inputs.specs.Stations.{StationState}

-- the inputs of the day of the edit's site are equal before it and after it
abbrev pub keeps_day : List StationState → Edit → ℤ → Bool
keeps_day stations edit day =
    same_inputs (inputs_of_day stations edit.site day) (inputs_of_day (stations_after stations edit) edit.site day)

-- the days that the edit changes, in order
abbrev pub changed_days : List StationState → Edit → List ℤ
changed_days stations edit = filter (λ day. not (keeps_day stations edit day)) calendar
