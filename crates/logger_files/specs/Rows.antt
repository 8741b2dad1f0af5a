-- What a row of a logger's file states: a reading, or why none is taken of it.
use Rattle.std.specs.Prelude.{ℕ, List, [], ◌∷◌, Option, None, Some, Result, Ok, Err, ℤ, ◌+ℤ◌, ◌*ℤ◌, int_lt, if◌then◌else◌}
use Rattle.std.specs.Option.{ok_or}
use Rattle.csv.specs.Records.{field_at}
use Rattle.fixed_units.specs.Decimals.{decimal_of}
use Rattle.fixed_units.specs.Quantities.{is_stage}
use Rattle.fixed_units.specs.Rounding.{round}
use Rattle.fixed_units.specs.declared.decimals.Bad.{Bad}
use Rattle.fixed_units.specs.declared.decimals.Bad.TheVariants as bad
use Rattle.fixed_units.specs.declared.readings.Reading.{Reading}
use Rattle.fixed_units.specs.declared.readings.Flag.TheVariants.{Usable}
use Rattle.civil_days.specs.Spelling.{only}
use Rattle.logger_files.specs.Fields.{fields, is_listed}
use Rattle.logger_files.specs.Times.{local_time, stamp_by}
use Rattle.logger_files.specs.declared.profiles.Profile.{Profile}
use Rattle.logger_files.specs.declared.reasons.Reason.{Reason}
use Rattle.logger_files.specs.declared.reasons.Reason.TheVariants.{NoTime, Time, NoField, NoValue, NoNumber, Decimals, Range, Order}
use Rattle.logger_files.specs.declared.rows.Columns.{Columns}
use Rattle.logger_files.specs.declared.values.Unit.{Unit}

-- a number in feet: times the factor, parted by the divisor, and moved by the offset, rounded once
abbrev pub converted : Unit → ℤ → ℤ
converted unit number = round (number *ℤ unit.factor +ℤ unit.offset *ℤ unit.divisor) unit.divisor

-- the instant of a row
abbrev pub time_in : Profile → Option (List ℕ) → Result ℤ Reason
time_in profile None = Err NoTime
time_in profile (Some field) = ok_or (stamp_by profile.clock (local_time profile.date.now field)) Time

-- the reason for which a text is no quantity
abbrev pub reason_of : Bad → Reason
reason_of bad.NotANumber = NoNumber
reason_of bad.TooManyDecimals = Decimals
reason_of bad.OutOfRange = Range

-- the stage that a text states
abbrev pub stage_from : Unit → Result ℤ Bad → Result ℤ Reason
stage_from unit (Err fault) = Err (reason_of fault)
stage_from unit (Ok number) = ok_or (only is_stage (Some (converted unit number))) Range

-- the stage of a row, unless a word for no value stands there
abbrev pub stage_in : Profile → Option (List ℕ) → Result ℤ Reason
stage_in profile None = Err NoField
stage_in profile (Some field) =
    if is_listed profile.separator profile.none.now field then Err NoValue else stage_from profile.unit (decimal_of field)

-- a reading of an instant and a stage
abbrev pub reading_from : Result ℤ Reason → Result ℤ Reason → Result Reading Reason
reading_from (Err reason) stage = Err reason
reading_from (Ok at) (Err reason) = Err reason
reading_from (Ok at) (Ok raw) = Ok (record { at = at; raw = raw; flag = Usable })

-- a reading has to be after the one that was taken before it
abbrev pub put_after : Option ℤ → Result Reading Reason → Result Reading Reason
put_after before (Err reason) = Err reason
put_after None (Ok reading) = Ok reading
put_after (Some before) (Ok reading) = if int_lt before reading.at then Ok reading else Err Order

-- what a line states behind the reading that was taken before it
abbrev pub outcome_of : Profile → Columns → Option ℤ → List ℕ → Result Reading Reason
outcome_of profile columns before line =
    put_after before (reading_from (time_in profile (field_at (fields profile.separator line) columns.time))
    (stage_in profile (field_at (fields profile.separator line) columns.value)))

-- the instant of the reading that was taken last, behind a row
abbrev pub last_after : Option ℤ → Result Reading Reason → Option ℤ
last_after before (Err reason) = before
last_after before (Ok reading) = Some reading.at

-- each row with what it states
unfoldable pub outcomes : Profile → Columns → Option ℤ → List (ℕ × List ℕ) → List (ℕ × Result Reading Reason)
outcomes profile columns before [] = []
outcomes profile columns before (row ∷ rows) =
    (row.0, outcome_of profile columns before row.1) ∷ outcomes profile columns (last_after before (outcome_of profile columns before row.1)) rows
