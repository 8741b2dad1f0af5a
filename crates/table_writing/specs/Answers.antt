-- What an office answers of days, as rows of daily values.
use Rattle.std.specs.Prelude.{Bool, false, List, [], ◌∷◌, Option, Some, None, is_some, ℤ}
use Rattle.std.specs.List.{flat_map}
use Rattle.approval.specs.Statuses.{is_approved}
use Rattle.approval.specs.declared.status.Status.{Status}
use Rattle.daily_values.specs.Figures.{published_discharge}
use Rattle.daily_values.specs.declared.day_values.DayValue.{DayValue}
use Rattle.daily_values.specs.declared.day_values.DayValue.TheVariants as values
use Rattle.depend.specs.Compared.{days_within}
use Rattle.fixed_units.specs.Quantities.{SiteNumber}
use Rattle.fixed_units.specs.declared.published.Published.{Published}
use Rattle.history.specs.Awaited.{DayAnswer, answer_at}
use Rattle.history.specs.Awaited as days
use Rattle.history.specs.Events.{Event}
use Rattle.history.specs.Statuses.{status_at}
use Rattle.water_year.specs.declared.rows.DailyRow.{DailyRow}
use Rattle.water_year.specs.declared.rows.RowState.{RowState}
use Rattle.water_year.specs.declared.rows.RowState.TheVariants as states

-- the published discharge, the estimate first; a day that is empty, or has none, is missing
abbrev pub state_by : Option Published → RowState
state_by None = states.Absent
state_by (Some discharge) = states.Value discharge

abbrev pub state_of : DayValue → RowState
state_of values.Empty = states.Absent
state_of (values.Day figures) = state_by (published_discharge figures)

-- whether an estimate stands
abbrev pub is_estimated : DayValue → Bool
is_estimated values.Empty = false
is_estimated (values.Day figures) = is_some figures.estimate

-- the row of a day of this status by what is answered for it: none where its site is not kept
abbrev pub row_by : ℤ → Status → DayAnswer → List DailyRow
row_by day status days.NoStation = []
row_by day status (days.Pending edit) =
    record { day = day; state = states.Pending edit; approved = is_approved status; estimated = false } ∷ []
row_by day status (days.Computed value) =
    record { day = day; state = state_of value; approved = is_approved status; estimated = is_estimated value } ∷ []

abbrev pub row_at : List Event → SiteNumber → ℤ → List DailyRow
row_at events site day = row_by day (status_at events site day) (answer_at events site day)

-- the rows of the days from one to another, both included
abbrev pub rows_at : List Event → SiteNumber → ℤ → ℤ → List DailyRow
rows_at events site from to = flat_map (row_at events site) (days_within from to)
