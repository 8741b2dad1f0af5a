-- The unit value of a reading: datum correction, corrected stage, shift and discharge (the practice of ADAPS, after
-- Water-Supply Paper 2175; that the sets are evaluated at the raw stage and added is this project's choice).
use Rattle.std.specs.Prelude.{ℕ, ◌+◌, ◌*◌, List, Option, None, Some, Result, Ok, Err, ℤ, pos, neg_ℤ, ◌+ℤ◌}
use Rattle.fixed_units.specs.declared.readings.Flag.{Flag}
use Rattle.fixed_units.specs.declared.readings.Flag.TheVariants as flags
use Rattle.fixed_units.specs.declared.readings.Reading.{Reading}
use Rattle.curves.specs.declared.entries.Entry.{Entry}
use Rattle.curves.specs.Entries.{series_value}
use Rattle.curves.specs.Corrections.{correction_by}
use Rattle.fixed_units.specs.Quantities.{IsWithin, most_stage, most_amount}
use Rattle.ratings.specs.Parts.{Part, part_at}
use Rattle.rating_tables.specs.Table.{rated}
use Rattle.rating_tables.specs.declared.table.Rated.{Rated}
use Rattle.rating_tables.specs.declared.table.Rated.TheVariants as rateds
use Rattle.unit_discharge.specs.declared.unit_values.Unit.{Unit}
use Rattle.unit_discharge.specs.declared.unit_values.Missing.{Missing}
use Rattle.unit_discharge.specs.declared.unit_values.Missing.TheVariants.{Affected, NoRating, Below, Above}

-- the stage of a reading: what the gauge gave, and its correction
abbrev pub corrected_stage : List Entry → List Entry → List Entry → Reading → ℤ
corrected_stage first second third r = r.raw +ℤ correction_by first second third r.at r.raw

-- a corrected stage in millionths of a foot: at most 100,000 feet and three amounts of 1,000 feet either way
abbrev pub most_corrected : ℕ
most_corrected = most_stage + 3 * most_amount

abbrev pub IsCorrected : ℤ → Type 0
IsCorrected n = IsWithin (neg_ℤ (pos most_corrected)) (pos most_corrected) n

-- what a rating says of a stage, as a discharge or the reason why there is none
abbrev pub discharge_rated : Rated → Result ℤ Missing
discharge_rated (rateds.Value discharge) = Ok discharge
discharge_rated rateds.Below = Err Below
discharge_rated rateds.Above = Err Above

-- the discharge of a stage with its shift, by the part of a rating period that is in force
abbrev pub discharge_by : Option Part → ℤ → Result ℤ Missing
discharge_by None stage = Err NoRating
discharge_by (Some part) stage = discharge_rated (rated part.rows stage)

-- an affected reading has no discharge, whatever is in force
abbrev pub discharge : Flag → Option Part → ℤ → Result ℤ Missing
discharge flags.Affected part stage = Err Affected
discharge flags.Usable part stage = discharge_by part stage
discharge flags.Erroneous part stage = discharge_by part stage

-- the shift of a reading: that of its corrected stage
abbrev pub shift_of : List Entry → List Entry → List Entry → List Entry → Reading → ℤ
shift_of first second third shifts r = series_value shifts r.at (corrected_stage first second third r)

-- the unit value of a reading: the rating in force is entered at the corrected stage with its shift
abbrev pub unit : List Entry → List Entry → List Entry → List Entry → List Part → Reading → Unit
unit first second third shifts parts r = record {
  at = r.at;
  raw = r.raw;
  correction = correction_by first second third r.at r.raw;
  stage = corrected_stage first second third r;
  shift = shift_of first second third shifts r;
  discharge = discharge r.flag (part_at r.at parts) (corrected_stage first second third r +ℤ shift_of first second third shifts r);
}
