-- The rows of a text: its first line is the station's, and each further one is a row.
use Rattle.std.specs.Prelude.{◌≡◌, ◌⊎◌, ℕ, ◌+◌, ◌==◌, ◌&&◌, not, nat_le, Bool, true, false, if◌then◌else◌, bytes_eq, codes, List, [], ◌∷◌, ◌++◌, length, Option, None, Some, Result, Ok, Err, ℤ, int_lt}
use Rattle.std.specs.List.{list_all}
use Rattle.std.specs.Option.{ok_or}
use Rattle.civil_days.specs.Faults.{IsZoneFault}
use Rattle.civil_days.specs.Starts.{IsZone}
use Rattle.civil_days.specs.declared.zones.ZoneFault.TheVariants.{BadZone}
use Rattle.fixed_units.specs.Quantities.{SiteNumber}
use Rattle.site_texts.specs.SiteText.{site_of_text}
use Rattle.draw.specs.Rows.{fields, row_in, whole_in}
use Rattle.draw.specs.declared.rows.Row.{Row}
use Rattle.draw.specs.declared.rows.Row.TheVariants.{Reading, Day, Measurement}
use Rattle.draw.specs.declared.rows.Why.{Why}
use Rattle.draw.specs.declared.rows.Why.TheVariants as whys
use Rattle.draw.specs.declared.tables.Before.{Before}
use Rattle.draw.specs.declared.tables.RowFault.{RowFault}
use Rattle.draw.specs.declared.tables.Station.{Station}
use Rattle.draw.specs.declared.tables.Table.{Table}

-- the fields of a station: its site, its name, its zone and the gap tolerance in minutes
abbrev pub site_in : List ℕ → Result SiteNumber Why
site_in field = ok_or (site_of_text field) whys.Site

-- a name has at most 200 bytes and no control character
abbrev pub is_shown : ℕ → Bool
is_shown b = nat_le 32 b && not (b == 127)

unfoldable pub is_name : List ℕ → Bool
is_name field = nat_le (length field) 200 && list_all is_shown field

abbrev pub gap_from : Option ℕ → Result ℕ Why
gap_from None = Err whys.Gap
gap_from (Some minutes) = if nat_le 1 minutes && nat_le minutes 720 then Ok minutes else Err whys.Gap

abbrev pub gap_in : List ℕ → Result ℕ Why
gap_in field = gap_from (whole_in field)

abbrev pub parts_from : Result SiteNumber Why → Bool → Result ℕ Why → Result (SiteNumber × ℕ) Why
parts_from (Err why) named gap = Err why
parts_from (Ok site) false gap = Err whys.Name
parts_from (Ok site) true (Err why) = Err why
parts_from (Ok site) true (Ok gap) = Ok (site, gap)

unfoldable pub parts_in : List ℕ → List ℕ → List ℕ → List ℕ → Result (SiteNumber × ℕ) Why
parts_in kind site name gap =
    if bytes_eq kind (codes "station") then parts_from (site_in site) (is_name name) (gap_in gap) else Err whys.Station

pub record IsStationOf (kind site name zone gap : List ℕ) (station : Station) : Type 0 where
  pub parts : parts_in kind site name gap ≡ Ok (station.site, station.gap)
  pub named : station.name ≡ name
  pub in_zone : station.zone ≡ zone
  pub zone_is : IsZone zone

abbrev pub IsStation : List (List ℕ) → Station → Type 0
IsStation (kind ∷ site ∷ name ∷ zone ∷ gap ∷ []) station = IsStationOf kind site name zone gap station
IsStation others station = ⊥

-- why fields are no station
abbrev pub IsNoZone : List ℕ → Why → Type 0
IsNoZone zone why = (why ≡ whys.Zone) × IsZoneFault zone BadZone

abbrev pub IsNoStationOf : List ℕ → List ℕ → List ℕ → List ℕ → List ℕ → Why → Type 0
IsNoStationOf kind site name zone gap why = (parts_in kind site name gap ≡ Err why) ⊎ IsNoZone zone why

abbrev pub IsNoStation : List (List ℕ) → Why → Type 0
IsNoStation (kind ∷ site ∷ name ∷ zone ∷ gap ∷ []) why = IsNoStationOf kind site name zone gap why
IsNoStation others why = why ≡ whys.Fields

-- readings and days come in the order of their instants and dates, each later than the one before
abbrev pub is_after : Option ℤ → ℤ → Bool
is_after None n = true
is_after (Some last) n = int_lt last n

abbrev pub in_order : Before → Row → Bool
in_order before (Reading reading) = is_after before.reading reading.at
in_order before (Day row) = is_after before.day row.day
in_order before (Measurement row) = true

abbrev pub put_after : Before → Result Row Why → Result Row Why
put_after before (Err why) = Err why
put_after before (Ok row) = if in_order before row then Ok row else Err whys.Order

abbrev pub no_row : Before
no_row = record { reading = None; day = None }

abbrev pub row_behind : Before → Row → Before
row_behind before (Reading reading) = record { reading = Some reading.at; day = before.day }
row_behind before (Day row) = record { reading = before.reading; day = Some row.day }
row_behind before (Measurement row) = before

-- the row of a line
unfoldable pub row_on : Before → List ℕ → Result Row Why
row_on before line = put_after before (row_in (fields line))

-- the row of a line was added behind others, and what is before the next line is known
pub record IsAdded (before : Before) (line : List ℕ) (next : Before) (old new : List Row) : Type 0 where
  pub row : Row
  pub states : row_on before line ≡ Ok row
  pub added : new ≡ old ++ row ∷ []
  pub behind : next ≡ row_behind before row

-- a line has a fault
pub record IsFaulty (before : Before) (line : List ℕ) (place : ℕ) (fault : RowFault) : Type 0 where
  pub states : row_on before line ≡ Err fault.why
  pub there : fault.line ≡ place

-- a row in front of those of the lines behind it
abbrev pub before_next : Before → Result Row Why → Before
before_next before (Err why) = before
before_next before (Ok row) = row_behind before row

abbrev pub with_row : ℕ → Result Row Why → Result (List Row) RowFault → Result (List Row) RowFault
with_row line (Err why) rows = Err (record { why = why; line = line })
with_row line (Ok row) (Err fault) = Err fault
with_row line (Ok row) (Ok rows) = Ok (row ∷ rows)

-- the rows of lines behind so many others, or the first fault
unfoldable pub rows_from : ℕ → Before → List (List ℕ) → Result (List Row) RowFault
rows_from passed before [] = Ok []
rows_from passed before (line ∷ lines) =
    with_row (passed + 1) (row_on before line) (rows_from (passed + 1) (before_next before (row_on before line)) lines)

-- a table of a text's lines
pub record IsTableBehind (line : List ℕ) (lines : List (List ℕ)) (table : Table) : Type 0 where
  pub first : IsStation (fields line) table.station
  pub others : rows_from 1 no_row lines ≡ Ok table.rows.items

abbrev pub IsTableOf : List (List ℕ) → Table → Type 0
IsTableOf [] table = ⊥
IsTableOf (line ∷ lines) table = IsTableBehind line lines table

-- the first fault, and the line that has it
abbrev pub IsFaultBehind : List ℕ → List (List ℕ) → RowFault → Type 0
IsFaultBehind line lines fault = (IsNoStation (fields line) fault.why × (fault.line ≡ 1)) ⊎ (rows_from 1 no_row lines ≡ Err fault)

abbrev pub IsFaultOf : List (List ℕ) → RowFault → Type 0
IsFaultOf [] fault = fault ≡ record { why = whys.Fields; line = 1 }
IsFaultOf (line ∷ lines) fault = IsFaultBehind line lines fault
