-- How far rows reach: the least and the greatest of their numbers, the first and the last of their instants.
use Rattle.std.specs.Prelude.{ℕ, List, fold, Option, None, Some, ℤ, pos, ◌+ℤ◌, int_lt, if◌then◌else◌}
use Rattle.civil_days.specs.Starts.{day_start_of}
use Rattle.fixed_units.specs.declared.readings.Flag.{Flag}
use Rattle.fixed_units.specs.declared.readings.Flag.TheVariants.{Usable, Erroneous, Affected}
use Rattle.fixed_units.specs.declared.readings.Reading.{Reading}
use Rattle.draw.specs.declared.rows.Row.{Row}
use Rattle.draw.specs.declared.rows.Row.TheVariants as row
use Rattle.draw.specs.declared.spreads.Quantity.{Quantity}
use Rattle.draw.specs.declared.spreads.Quantity.TheVariants.{Stage, Discharge}

-- the number of a row: that of an erroneous reading does not count
abbrev pub stage_by : Flag → ℤ → Option ℤ
stage_by Usable stage = Some stage
stage_by Erroneous stage = None
stage_by Affected stage = Some stage

abbrev pub usable_stage : Reading → Option ℤ
usable_stage reading = stage_by reading.flag reading.raw

abbrev pub number_of : Quantity → Row → Option ℤ
number_of Stage (row.Reading reading) = usable_stage reading
number_of Stage (row.Day d) = d.stage
number_of Stage (row.Measurement m) = Some m.stage
number_of Discharge (row.Reading reading) = None
number_of Discharge (row.Day d) = d.discharge
number_of Discharge (row.Measurement m) = Some m.discharge

-- the least and the greatest with one number more, if there is one
abbrev pub widened : Option (ℤ × ℤ) → Option ℤ → Option (ℤ × ℤ)
widened spread None = spread
widened None (Some n) = Some (n, n)
widened (Some ends) (Some n) = Some ((if int_lt n ends.0 then n else ends.0), (if int_lt ends.1 n then n else ends.1))

abbrev pub spread_of : Quantity → List Row → Option (ℤ × ℤ)
spread_of quantity rows = fold (λ spread r. widened spread (number_of quantity r)) None rows

-- the instants of a row: a day has two, its start and its end
abbrev pub ends_of : List ℕ → Row → ℤ × ℤ
ends_of zone (row.Reading reading) = (reading.at, reading.at)
ends_of zone (row.Day d) = (day_start_of zone d.day, day_start_of zone (d.day +ℤ pos 1))
ends_of zone (row.Measurement m) = (m.at, m.at)

-- the first and the last instant with those of a row more
abbrev pub spanned : Option (ℤ × ℤ) → ℤ × ℤ → ℤ × ℤ
spanned None ends = ends
spanned (Some span) ends = ((if int_lt ends.0 span.0 then ends.0 else span.0), (if int_lt span.1 ends.1 then ends.1 else span.1))

abbrev pub time_span : List ℕ → List Row → Option (ℤ × ℤ)
time_span zone rows = fold (λ span r. Some (spanned span (ends_of zone r))) None rows
