-- What a line behind the station's states: a reading, a day or a measurement, or why it is no row.
use Rattle.std.specs.Prelude.{ℕ, Bool, true, false, ◌&&◌, ◌==◌, if◌then◌else◌, bytes_eq, codes, List, [], ◌∷◌, length, map, Option, None, Some, Result, Ok, Err, ℤ, pos, unsigned_abs}
use Rattle.std.specs.Borrow.{Bor}
use Rattle.std.specs.Int.{int_div_euclid, int_rem_euclid}
use Rattle.std.specs.List.{slice_split}
use Rattle.std.specs.Option.{ok_or}
use Rattle.std.specs.Ordering.{int_eq}
use Rattle.civil_days.specs.Spelling.{day_of_text, stamp_of_text}
use Rattle.fixed_units.specs.Decimals.{decimal_of}
use Rattle.fixed_units.specs.Quantities.{is_discharge, is_stage, is_within}
use Rattle.fixed_units.specs.declared.decimals.Bad.{Bad}
use Rattle.fixed_units.specs.declared.readings.Flag.{Flag}
use Rattle.fixed_units.specs.declared.readings.Flag.TheVariants as flags
use Rattle.draw.specs.declared.rows.Row.{Row}
use Rattle.draw.specs.declared.rows.Row.TheVariants as row
use Rattle.draw.specs.declared.rows.Status.{Status}
use Rattle.draw.specs.declared.rows.Status.TheVariants as statuses
use Rattle.draw.specs.declared.rows.Why.{Why}
use Rattle.draw.specs.declared.rows.Why.TheVariants.{Kind, Fields, Station, Instant, Date, Number, Stage, Discharge, Flag as NoFlag, Estimated, Status as NoStatus}

-- the fields of a line stand between tabs
abbrev pub fields : List ℕ → List (List ℕ)
fields line = slice_split (λ b. b == 9) line

-- fields that are lent, as texts
abbrev pub texts : List (Bor (List ℕ)) → List (List ℕ)
texts fields = map (λ field. field.now) fields

-- what a field writes
unfoldable pub instant_in : List ℕ → Result ℤ Why
instant_in field = ok_or (stamp_of_text field) Instant

unfoldable pub date_in : List ℕ → Result ℤ Why
date_in field = ok_or (day_of_text field) Date

abbrev pub stage_from : Result ℤ Bad → Result ℤ Why
stage_from (Err fault) = Err Stage
stage_from (Ok n) = if is_stage n then Ok n else Err Stage

unfoldable pub stage_in : List ℕ → Result ℤ Why
stage_in field = stage_from (decimal_of field)

abbrev pub discharge_from : Result ℤ Bad → Result ℤ Why
discharge_from (Err fault) = Err Discharge
discharge_from (Ok n) = if is_discharge n then Ok n else Err Discharge

unfoldable pub discharge_in : List ℕ → Result ℤ Why
discharge_in field = discharge_from (decimal_of field)

-- a whole number from 0 to 999,999,999
abbrev pub whole_of : ℤ → Option ℕ
whole_of n =
    if is_within (pos 0) (pos 999_999_999_000_000) n && (int_eq (int_rem_euclid n (pos 1_000_000)) (pos 0))
    then Some (unsigned_abs (int_div_euclid n (pos 1_000_000))) else None

abbrev pub whole_from : Result ℤ Bad → Option ℕ
whole_from (Err fault) = None
whole_from (Ok n) = whole_of n

unfoldable pub whole_in : List ℕ → Option ℕ
whole_in field = whole_from (decimal_of field)

unfoldable pub number_in : List ℕ → Result ℕ Why
number_in field = ok_or (whole_in field) Number

-- a mean may be missing
abbrev pub some_of : Result ℤ Why → Result (Option ℤ) Why
some_of (Err why) = Err why
some_of (Ok n) = Ok (Some n)

unfoldable pub mean_stage_in : List ℕ → Result (Option ℤ) Why
mean_stage_in field = if length field == 0 then Ok None else some_of (stage_in field)

unfoldable pub mean_discharge_in : List ℕ → Result (Option ℤ) Why
mean_discharge_in field = if length field == 0 then Ok None else some_of (discharge_in field)

unfoldable pub flag_in : List ℕ → Result Flag Why
flag_in field =
    if bytes_eq field (codes "ok") then Ok flags.Usable
    else (if bytes_eq field (codes "erroneous") then Ok flags.Erroneous
    else (if bytes_eq field (codes "affected") then Ok flags.Affected else Err NoFlag))

unfoldable pub estimate_in : List ℕ → Result Bool Why
estimate_in field =
    if length field == 0 then Ok false else (if bytes_eq field (codes "e") then Ok true else Err Estimated)

unfoldable pub status_in : List ℕ → Result Status Why
status_in field =
    if bytes_eq field (codes "working") then Ok statuses.Working
    else (if bytes_eq field (codes "review") then Ok statuses.Review
    else (if bytes_eq field (codes "approved") then Ok statuses.Approved else Err NoStatus))

-- a reading of its fields, or the first of them that is none
abbrev pub reading_from : Result ℤ Why → Result ℤ Why → Result Flag Why → Result Row Why
reading_from (Err why) stage flag = Err why
reading_from (Ok at) (Err why) flag = Err why
reading_from (Ok at) (Ok raw) (Err why) = Err why
reading_from (Ok at) (Ok raw) (Ok flag) = Ok (row.Reading (record { at = at; raw = raw; flag = flag }))

unfoldable pub reading_in : List (List ℕ) → Result Row Why
reading_in (at ∷ stage ∷ flag ∷ []) = reading_from (instant_in at) (stage_in stage) (flag_in flag)
reading_in others = Err Fields

-- a day
abbrev pub day_from : Result ℤ Why → Result (Option ℤ) Why → Result (Option ℤ) Why → Result Bool Why → Result Status Why → Result Row Why
day_from (Err why) stage discharge estimate status = Err why
day_from (Ok day) (Err why) discharge estimate status = Err why
day_from (Ok day) (Ok stage) (Err why) estimate status = Err why
day_from (Ok day) (Ok stage) (Ok discharge) (Err why) status = Err why
day_from (Ok day) (Ok stage) (Ok discharge) (Ok estimated) (Err why) = Err why
day_from (Ok day) (Ok stage) (Ok discharge) (Ok estimated) (Ok status) =
    Ok (row.Day (record { day = day; stage = stage; discharge = discharge; estimated = estimated; status = status }))

unfoldable pub day_in : List (List ℕ) → Result Row Why
day_in (date ∷ stage ∷ discharge ∷ estimate ∷ status ∷ []) =
    day_from (date_in date) (mean_stage_in stage) (mean_discharge_in discharge) (estimate_in estimate) (status_in status)
day_in others = Err Fields

-- a measurement
abbrev pub measurement_from : Result ℕ Why → Result ℤ Why → Result ℤ Why → Result ℤ Why → Result Row Why
measurement_from (Err why) at stage discharge = Err why
measurement_from (Ok number) (Err why) stage discharge = Err why
measurement_from (Ok number) (Ok at) (Err why) discharge = Err why
measurement_from (Ok number) (Ok at) (Ok stage) (Err why) = Err why
measurement_from (Ok number) (Ok at) (Ok stage) (Ok discharge) =
    Ok (row.Measurement (record { number = number; at = at; stage = stage; discharge = discharge }))

unfoldable pub measurement_in : List (List ℕ) → Result Row Why
measurement_in (number ∷ at ∷ stage ∷ discharge ∷ []) =
    measurement_from (number_in number) (instant_in at) (stage_in stage) (discharge_in discharge)
measurement_in others = Err Fields

-- what a line states, by its kind
abbrev pub row_by : List ℕ → List (List ℕ) → Result Row Why
row_by kind fields =
    if bytes_eq kind (codes "reading") then reading_in fields
    else (if bytes_eq kind (codes "day") then day_in fields
    else (if bytes_eq kind (codes "measurement") then measurement_in fields
    else (if bytes_eq kind (codes "station") then Err Station else Err Kind)))

unfoldable pub row_in : List (List ℕ) → Result Row Why
row_in [] = Err Kind
row_in (kind ∷ fields) = row_by kind fields
