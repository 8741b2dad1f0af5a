-- Jobs, and what becomes of their publication.
use Rattle.std.specs.Prelude.{◌≡◌, ℕ, Bool, ◌==◌, if◌then◌else◌, List, Option, Some, None, ℤ}
use Rattle.fixed_units.specs.Quantities.{SiteNumber}
use Rattle.day_inputs.specs.declared.day_inputs.DayInputs.{DayInputs}
use Rattle.day_inputs.specs.Equality.{same_inputs}
use Rattle.daily_values.specs.declared.day_values.DayValue.{DayValue}
use Rattle.office_inputs.specs.Stations.{inputs_of_day}
use Rattle.station_inputs.specs.Stations.{StationState}
use Rattle.day_cells.specs.declared.waiting.Waiting.{Waiting}
use Rattle.day_cells.specs.KeptDays.{KeptDays}
use Rattle.recompute.specs.Cells.{awaited_in}
use Rattle.recompute.specs.declared.jobs.Publish.{Publish}
use Rattle.recompute.specs.declared.jobs.Publish.TheVariants.{Settled, Superseded, Foreign, Published}

-- a day to compute, with the edit that it awaited and its inputs
pub record DayJob : Type 0 where
  pub site : SiteNumber
  pub day : ℤ
  pub awaits : ℕ
  pub inputs : DayInputs

-- a job with its value
pub record DoneJob : Type 0 where
  pub job : DayJob
  pub value : DayValue

-- the job of a pending day, on the inputs in force
abbrev pub job_of : List StationState → Waiting → DayJob
job_of stations w = record { site = w.site; day = w.day; awaits = w.awaits; inputs = inputs_of_day stations w.site w.day }

-- what becomes of a publication: nothing awaited, another edit awaited, other inputs, or else it is published
abbrev pub outcome_by : Option ℕ → ℕ → Bool → Publish
outcome_by None awaits same = Settled
outcome_by (Some edit) awaits same = if edit == awaits then (if same then Published else Foreign) else Superseded edit

abbrev pub outcome_of : List KeptDays → List StationState → DayJob → Publish
outcome_of cells stations job =
    outcome_by (awaited_in cells job.site job.day) job.awaits (same_inputs job.inputs (inputs_of_day stations job.site job.day))

-- a job is true: as long as its day awaits its edit, its inputs are those in force
abbrev pub IsTrueJob : List KeptDays → List StationState → DayJob → Type 0
IsTrueJob cells stations job =
    awaited_in cells job.site job.day ≡ Some job.awaits → job.inputs ≡ inputs_of_day stations job.site job.day
