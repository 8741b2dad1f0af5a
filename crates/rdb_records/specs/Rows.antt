-- What a row of unit values states, by itself and against the row before it.
use Rattle.std.specs.Prelude.{ℕ, Bool, true, false, if◌then◌else◌, List, Option, None, Some, Result, Ok, Err, ℤ, int_lt, codes}
use Rattle.std.specs.Option.{ok_or}
use Rattle.std.specs.Result.{result_ok}
use Rattle.csv.specs.Records.{field_at}
use Rattle.fixed_units.specs.Decimals.{decimal_of}
use Rattle.fixed_units.specs.Quantities.{is_stage}
use Rattle.rating_tables.specs.Rdb.{column, fields, is_field}
use Rattle.rdb_records.specs.declared.faults.UnitFault.{UnitFault}
use Rattle.rdb_records.specs.declared.faults.UnitFault.TheVariants.{Site, Zone, Instant, Order, Range}
use Rattle.rdb_records.specs.declared.rows.Columns.{Columns}
use Rattle.rdb_records.specs.declared.rows.UnitRow.{UnitRow}
use Rattle.rdb_records.specs.Times.{zones, hours_of, local_time, stamp_by}

-- the places of the four columns, where all are there
abbrev pub columns_from : Option ℕ → Option ℕ → Option ℕ → Option ℕ → Option Columns
columns_from None _ _ _ = None
columns_from (Some site) None _ _ = None
columns_from (Some site) (Some time) None _ = None
columns_from (Some site) (Some time) (Some zone) None = None
columns_from (Some site) (Some time) (Some zone) (Some value) =
    Some (record { site = site; time = time; zone = zone; value = value })

-- the places of the columns among the names, of which that of the values is the given one
abbrev pub columns_of : List ℕ → List (List ℕ) → Option Columns
columns_of value names =
    columns_from (column (codes "site_no") names) (column (codes "datetime") names) (column (codes "tz_cd") names) (column value names)

-- the hours of the zone in a field, if there is one
abbrev pub zone_in : Option (List ℕ) → Option ℤ
zone_in None = None
zone_in (Some field) = hours_of zones field

-- the local time in a field
abbrev pub time_in : Option (List ℕ) → Option ℤ
time_in None = None
time_in (Some field) = local_time field

-- the number in a field
abbrev pub number_in : Option (List ℕ) → Option ℤ
number_in None = None
number_in (Some field) = result_ok (decimal_of field)

-- the instant of a row that is of the site or not, and has those hours and that local time
abbrev pub instant_from : ℕ → Bool → Option ℤ → Option ℤ → Result ℤ UnitFault
instant_from line false hours local = Err (Site line)
instant_from line true None local = Err (Zone line)
instant_from line true (Some hours) local = ok_or (stamp_by hours local) (Instant line)

-- an instant that is after that of the row before
abbrev pub after_row : ℕ → Option ℤ → Result ℤ UnitFault → Result ℤ UnitFault
after_row line before (Err fault) = Err fault
after_row line None (Ok at) = Ok at
after_row line (Some before) (Ok at) = if int_lt before at then Ok at else Err (Order line)

-- a row of an instant and a number, which has to be a stage; without a number the row is skipped
abbrev pub with_number : ℕ → Option ℤ → Result ℤ UnitFault → Result UnitRow UnitFault
with_number line number (Err fault) = Err fault
with_number line None (Ok at) = Ok (record { at = at; stage = None })
with_number line (Some number) (Ok at) = if is_stage number then Ok (record { at = at; stage = Some number }) else Err (Range line)

-- what the fields of a line state of a site, behind the instant of the row before
abbrev pub row_from : List ℕ → Columns → Option ℤ → ℕ → List (List ℕ) → Result UnitRow UnitFault
row_from site columns before line fields =
    with_number line (number_in (field_at fields columns.value))
    (after_row line before (instant_from line (is_field site (field_at fields columns.site)) (zone_in (field_at fields columns.zone)) (time_in (field_at fields columns.time))))

-- the row of a numbered line
abbrev pub row_of : List ℕ → Columns → Option ℤ → ℕ × List ℕ → Result UnitRow UnitFault
row_of site columns before line = row_from site columns before line.0 (fields line.1)
