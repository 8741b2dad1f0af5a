-- The bodies for days: compact JSON, members in rising order of their names.
use Rattle.std.specs.Prelude.{ℕ, ℤ, Bool, List, ◌++◌, codes, decimal, Option, Some, None, is_some, option_and_then}
use Rattle.std.specs.Result.{result_ok}
use Rattle.approval.specs.Statuses.{status_name}
use Rattle.approval.specs.declared.status.Status.{Status}
use Rattle.fixed_units.specs.PublishedText.{published_text}
use Rattle.fixed_units.specs.declared.published.Published.{Published}
use Rattle.daily_values.specs.Figures.{DayFigures, mean_stage, published_discharge}
use Rattle.daily_values.specs.declared.extremes.Extremes.{Extremes}
use Rattle.http_api.specs.JsonTexts.{bool_text, micro_or_null}
use Rattle.unit_discharge.specs.declared.unit_values.Unit.{Unit}
use Rattle.daily_values.specs.declared.day_values.DayValue.{DayValue}
use Rattle.daily_values.specs.declared.day_values.DayValue.TheVariants as values
use Rattle.http_api.specs.declared.days.DayAnswer.{DayAnswer}
use Rattle.http_api.specs.declared.days.DayAnswer.TheVariants.{Pending, Computed}
use Rattle.http_api.specs.declared.days.DayReply.{DayReply}

-- the last member, and the end of the body
abbrev pub status_member : Status → List ℕ
status_member status = codes ",\"status\":\"" ++ status_name status ++ codes "\"}"

-- a published value in quotes, or null
abbrev pub published_or_null : Option Published → List ℕ
published_or_null None = codes "null"
published_or_null (Some value) = codes "\"" ++ published_text value ++ codes "\""

-- the members of a day with figures up to its discharge: the seconds that its discharges cover, and the published discharge
abbrev pub discharge_members : ℕ → Option Published → List ℕ
discharge_members covered discharge =
    codes "{\"answer\":\"computed\",\"covered\":" ++ decimal covered ++ codes ",\"discharge\":" ++ published_or_null discharge

-- those behind it up to the length: whether the discharge is an estimate, and the seconds of the day
abbrev pub length_members : Bool → ℕ → List ℕ
length_members estimated seconds = codes ",\"estimated\":" ++ bool_text estimated ++ codes ",\"length\":" ++ decimal seconds

-- the discharge of an extreme, where there is one
abbrev pub discharge_in : Option Unit → Option ℤ
discharge_in extreme = option_and_then (λ (u : Unit). result_ok u.discharge) extreme

-- the members of the extremes: the greatest and the least discharge with their six decimals
unfoldable pub extremes_members : Extremes → List ℕ
extremes_members extremes =
    (codes ",\"max\":" ++ micro_or_null (discharge_in extremes.max_discharge)) ++ (codes ",\"min\":" ++ micro_or_null (discharge_in extremes.min_discharge))

-- those behind that: the members of the extremes, and the published mean stage
abbrev pub stage_members : Extremes → Option Published → List ℕ
stage_members extremes stage =
    extremes_members extremes ++ codes ",\"stage\":" ++ published_or_null stage

-- a day with figures
abbrev pub figures_members : DayFigures → List ℕ
figures_members figures =
    discharge_members figures.discharge.covered (published_discharge figures) ++ length_members (is_some figures.estimate) figures.length
    ++ stage_members figures.extremes (mean_stage figures)

abbrev pub value_members : DayValue → List ℕ
value_members values.Empty = codes "{\"answer\":\"computed\",\"empty\":true"
value_members (values.Day figures) = figures_members figures

-- what is known of a day: the edit that it awaits, or its value
abbrev pub answer_members : DayAnswer → List ℕ
answer_members (Pending edit) = codes "{\"answer\":\"pending\",\"edit\":" ++ decimal edit
answer_members (Computed value) = value_members value.now

-- the body for a day
abbrev pub day_text : DayReply → List ℕ
day_text day = answer_members day.answer ++ status_member day.status
