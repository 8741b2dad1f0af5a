-- The value of a day: the means of its corrected stages and of its discharges, as trapezoids between neighbouring unit values that
-- are cut to the day (after the mean of unit values in Water-Supply Paper 2175; trapezoids and cuts are this project's choice).
use Rattle.std.specs.List.{list_any}
use Rattle.std.specs.Prelude.{ℕ, ◌*◌, Bool, false, not, ◌&&◌, ◌==◌, if◌then◌else◌, List, [], ◌∷◌, map, filter, find, sum_by, count_by, Option, None, Some, is_some, Result, Ok, Err, ℤ, pos, negsuc, ◌+ℤ◌, ◌-ℤ◌, ◌*ℤ◌, int_le, int_lt}
use Rattle.std.specs.Int.{int_max, int_min}
use Rattle.std.specs.Result.{result_ok}
use Rattle.fixed_units.specs.Lines.{line_at}
use Rattle.fixed_units.specs.declared.readings.Reading.{Reading}
use Rattle.unit_discharge.specs.Unit.{unit}
use Rattle.unit_discharge.specs.declared.unit_values.Unit.{Unit}
use Rattle.unit_discharge.specs.declared.unit_values.Missing.{Missing}
use Rattle.unit_discharge.specs.declared.unit_values.Missing.TheVariants as missing
use Rattle.day_inputs.specs.declared.day_inputs.DayInputs.{DayInputs}
use Rattle.day_inputs.specs.declared.day_inputs.DayInputs.TheVariants as inputs
use Rattle.daily_values.specs.declared.counts.Counts.{Counts}
use Rattle.daily_values.specs.declared.day_values.DayValue.{DayValue}
use Rattle.daily_values.specs.declared.extremes.Extremes.{Extremes}
use Rattle.daily_values.specs.declared.extremes.Quantity.{Quantity}
use Rattle.daily_values.specs.declared.extremes.Quantity.TheVariants as quantities
use Rattle.daily_values.specs.declared.day_values.DayValue.TheVariants as values
use Rattle.daily_values.specs.declared.sums.Sum.{Sum}
use Rattle.daily_values.specs.Figures.{DayFigures}
use Rattle.day_inputs.specs.declared.day_inputs.DayParts.{DayParts}

-- the unit value of a reading by the entries and the rating periods of a day, and those of its window
abbrev pub unit_of : DayParts → Reading → Unit
unit_of day r = unit day.first day.second day.third day.shifts day.periods r

abbrev pub units_of : DayParts → List Unit
units_of day = map (unit_of day) day.window

-- each element of a list with the one behind it
abbrev pub neighbours : {X : Type 0} → List X → List (X × X)
neighbours [] = []
neighbours (r ∷ []) = []
neighbours (r ∷ s ∷ rs) = (r, s) ∷ neighbours (s ∷ rs)

-- an instant, and the value there, where there is one
abbrev pub Point : Type 0
Point = ℤ × Option ℤ

-- what is averaged: the stage of a unit value, which is always there, and its discharge
abbrev pub stage_point : Unit → Point
stage_point u = (u.at, Some u.stage)

abbrev pub discharge_point : Unit → Point
discharge_point u = (u.at, result_ok u.discharge)

-- the first and the last instant of the day between two others
abbrev pub left_end : DayParts → ℤ → ℤ
left_end day at = int_max day.from at

abbrev pub right_end : DayParts → ℤ → ℤ
right_end day at = int_min day.until at

-- a number, or 0 where it is below 0
abbrev pub positive_part : ℤ → ℕ
positive_part (pos n) = n
positive_part (negsuc n) = 0

-- how many seconds of the day lie between two instants that are near enough to each other, none where they are not
abbrev pub seconds_between : DayParts → ℤ → ℤ → ℕ
seconds_between day from to =
    if int_le (to -ℤ from) (pos (60 * day.gap)) then positive_part (right_end day to -ℤ left_end day from) else 0

-- twice the area under the line between two values at their instants, cut to the day, where each end is rounded once: millionths
-- times seconds
abbrev pub twice_area : DayParts → ℤ × ℤ → ℤ × ℤ → ℤ
twice_area day p q =
    (line_at p q (left_end day p.0) +ℤ line_at p q (right_end day q.0)) *ℤ pos (seconds_between day p.0 q.0)

-- the same between two points of which both have a value, and the seconds that it covers; without both there is neither
abbrev pub area_between : DayParts → ℤ → Option ℤ → ℤ → Option ℤ → ℤ
area_between day from None to w = pos 0
area_between day from (Some v) to None = pos 0
area_between day from (Some v) to (Some w) = twice_area day (from, v) (to, w)

abbrev pub if_both : Option ℤ → Option ℤ → ℕ → ℕ
if_both None w seconds = 0
if_both (Some v) None seconds = 0
if_both (Some v) (Some w) seconds = seconds

abbrev pub pair_area : DayParts → Point × Point → ℤ
pair_area day pair = area_between day pair.0.0 pair.0.1 pair.1.0 pair.1.1

abbrev pub pair_seconds : DayParts → Point × Point → ℕ
pair_seconds day pair = if_both pair.0.1 pair.1.1 (seconds_between day pair.0.0 pair.1.0)

-- the sum of the areas
abbrev pub twice_areas : DayParts → List (Point × Point) → ℤ
twice_areas day [] = pos 0
twice_areas day (pair ∷ pairs) = pair_area day pair +ℤ twice_areas day pairs

-- the sum over the pairs of neighbouring points of a day: twice the area, and the seconds that it covers
abbrev pub sum_of : (Unit → Point) → DayParts → Sum
sum_of point day = record {
  twice = twice_areas day (neighbours (map point (units_of day)));
  covered = sum_by (pair_seconds day) (neighbours (map point (units_of day)));
}

-- how many seconds a day has
abbrev pub day_length : DayParts → ℕ
day_length day = positive_part (day.until -ℤ day.from)

-- a unit value of the day itself, and not of a neighbour of it
abbrev pub is_of_day : DayParts → Unit → Bool
is_of_day day u = int_le day.from u.at && int_lt u.at day.until

-- the reasons why a discharge is missing, in the order in which they count
abbrev pub place : Missing → ℕ
place missing.Affected = 0
place missing.NoRating = 1
place missing.Below = 2
place missing.Above = 3

-- a discharge is missing for a reason
abbrev pub has_reason : Missing → Result ℤ Missing → Bool
has_reason reason (Ok discharge) = false
has_reason reason (Err found) = place reason == place found

-- a unit value of the day has no discharge for a reason
abbrev pub is_missing : DayParts → Missing → Unit → Bool
is_missing day reason u = is_of_day day u && has_reason reason u.discharge

-- the used readings of the day, and those of them that have no discharge, by their reasons
abbrev pub counts_of : DayParts → Counts
counts_of day = record {
  readings = count_by (is_of_day day) (units_of day);
  affected = count_by (is_missing day missing.Affected) (units_of day);
  no_rating = count_by (is_missing day missing.NoRating) (units_of day);
  below = count_by (is_missing day missing.Below) (units_of day);
  above = count_by (is_missing day missing.Above) (units_of day);
}

-- of two values that are both there, the one is less
abbrev pub is_less : Option ℤ → Option ℤ → Bool
is_less None w = false
is_less (Some v) None = false
is_less (Some v) (Some w) = int_lt v w

-- the first unit value with a value that none of the others exceeds, and the first whose value exceeds none of theirs
abbrev pub greatest : (Unit → Option ℤ) → List Unit → Option Unit
greatest value units = find (λ u. is_some (value u) && not (list_any (λ v. is_less (value u) (value v)) units)) units

abbrev pub least : (Unit → Option ℤ) → List Unit → Option Unit
least value units = find (λ u. is_some (value u) && not (list_any (λ v. is_less (value v) (value u)) units)) units

-- what is compared: the stage of a unit value, which is always there, and its discharge
abbrev pub stage_of : Unit → Option ℤ
stage_of u = Some u.stage

abbrev pub discharge_of : Unit → Option ℤ
discharge_of u = result_ok u.discharge

abbrev pub value_of : Quantity → Unit → Option ℤ
value_of quantities.Stage = stage_of
value_of quantities.Discharge = discharge_of

-- the greatest and the least stage and discharge among unit values; of equal ones the earliest counts
abbrev pub extremes_among : List Unit → Extremes
extremes_among units = record {
  max_stage = greatest stage_of units;
  min_stage = least stage_of units;
  max_discharge = greatest discharge_of units;
  min_discharge = least discharge_of units;
}

-- the unit values of the day itself, without those of its neighbours
abbrev pub own_units : DayParts → List Unit
own_units day = filter (is_of_day day) (units_of day)

-- the greatest and the least stage and discharge among the used readings of the day
abbrev pub extremes_of : DayParts → Extremes
extremes_of day = extremes_among (own_units day)

-- the figures of a day
abbrev pub figures_of : DayParts → DayFigures
figures_of day = record {
  length = day_length day;
  counts = counts_of day;
  stage = sum_of stage_point day;
  discharge = sum_of discharge_point day;
  extremes = extremes_of day;
  estimate = day.estimate;
  stage_array = day.stage_array;
  discharge_array = day.discharge_array;
  least = day.least;
}

-- the value of a day is a function of its inputs alone
abbrev pub day_value : DayInputs → DayValue
day_value inputs.Empty = values.Empty
day_value (inputs.Day day) = values.Day (figures_of day)
