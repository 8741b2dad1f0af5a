-- What a text of measurement notes is read as: its verticals, or its first fault with records taken in order.
use Rattle.std.specs.Prelude.{ℕ, suc, ◌==◌, Bool, true, false, not, ◌&&◌, if◌then◌else◌, List, [], ◌∷◌, length, Option, None, Some, option_map, is_some, Result, Ok, Err, ℤ, int_lt, codes}
use Rattle.std.specs.Result.{result_ok}
use Rattle.std.specs.Str.{bytes_eq}
use Rattle.csv.specs.Reading.{default_config, records, strip_bom}
use Rattle.csv.specs.Records.{field_at}
use Rattle.fixed_units.specs.Decimals.{decimal_of}
use Rattle.fixed_units.specs.Quantities.{is_discharge}
use Rattle.midsection.specs.Midsection.{total}
use Rattle.midsection.specs.Notes.{is_off_count}
use Rattle.midsection.specs.Verticals.{is_in_range, velocity_by_method}
use Rattle.midsection.specs.declared.faults.NotesFault.{NotesFault}
use Rattle.midsection.specs.declared.faults.NotesFault.TheVariants as faults
use Rattle.midsection.specs.declared.verticals.Vertical.{Vertical}

-- whether there is a field that is this text
abbrev pub is_field : List ℕ → Option (List ℕ) → Bool
is_field text None = false
is_field text (Some field) = bytes_eq field text

-- how many fields a record has
abbrev pub field_count : ℕ
field_count = 5

-- the first record names the fields
abbrev pub are_names : List (List ℕ) → Bool
are_names fields = (length fields == field_count)
    && is_field (codes "distance") (field_at fields 0) && is_field (codes "depth") (field_at fields 1)
    && is_field (codes "v2") (field_at fields 2) && is_field (codes "v6") (field_at fields 3) && is_field (codes "v8") (field_at fields 4)

-- the number that a field states, if it states one
abbrev pub number_in : Option (List ℕ) → Option ℤ
number_in None = None
number_in (Some field) = result_ok (decimal_of field)

-- the velocity of a field: none was measured where it is empty
abbrev pub velocity_text : List ℕ → Option (Option ℤ)
velocity_text [] = Some None
velocity_text (b ∷ text) = option_map (λ n. Some n) (result_ok (decimal_of (b ∷ text)))

abbrev pub velocity_in : Option (List ℕ) → Option (Option ℤ)
velocity_in None = None
velocity_in (Some field) = velocity_text field

-- the vertical of these numbers, if each is one
abbrev pub vertical_from : Option ℤ → Option ℤ → Option (Option ℤ) → Option (Option ℤ) → Option (Option ℤ) → Option Vertical
vertical_from None depth v2 v6 v8 = None
vertical_from (Some distance) None v2 v6 v8 = None
vertical_from (Some distance) (Some depth) None v6 v8 = None
vertical_from (Some distance) (Some depth) (Some v2) None v8 = None
vertical_from (Some distance) (Some depth) (Some v2) (Some v6) None = None
vertical_from (Some distance) (Some depth) (Some v2) (Some v6) (Some v8) =
    Some (record { distance = distance; depth = depth; v2 = v2; v6 = v6; v8 = v8 })

-- the vertical of a record
abbrev pub vertical_in : List (List ℕ) → Option Vertical
vertical_in fields =
    if length fields == field_count
    then vertical_from (number_in (field_at fields 0)) (number_in (field_at fields 1))
    (velocity_in (field_at fields 2)) (velocity_in (field_at fields 3)) (velocity_in (field_at fields 4))
    else None

-- whether a distance is above the one before it
abbrev pub is_above : Option ℤ → ℤ → Bool
is_above None distance = true
is_above (Some before) distance = int_lt before distance

-- what is wrong with the vertical of a record, if anything
abbrev pub tested : ℕ → Option ℤ → Option Vertical → Result Vertical NotesFault
tested number before None = Err (faults.Number number)
tested number before (Some v) =
    if not (is_in_range v) then Err (faults.Range number)
    else (if not (is_above before v.distance) then Err (faults.Order number)
    else (if not (is_some (velocity_by_method v)) then Err (faults.Method number)
    else Ok v))

-- the vertical of a record behind a distance
abbrev pub next_vertical : ℕ → Option ℤ → List (List ℕ) → Result Vertical NotesFault
next_vertical number before fields = tested number before (vertical_in fields)

-- a vertical in front of those that follow it
abbrev pub in_front : Vertical → Result (List Vertical) NotesFault → Result (List Vertical) NotesFault
in_front v (Err fault) = Err fault
in_front v (Ok verticals) = Ok (v ∷ verticals)

abbrev pub and_verticals : Result Vertical NotesFault → (Vertical → Result (List Vertical) NotesFault) → Result (List Vertical) NotesFault
and_verticals (Err fault) following = Err fault
and_verticals (Ok v) following = in_front v (following v)

-- the verticals of records, counted from a number on, or the fault of the first record that has one
unfoldable pub verticals_of : ℕ → Option ℤ → List (List (List ℕ)) → Result (List Vertical) NotesFault
verticals_of number before [] = Ok []
verticals_of number before (fields ∷ rows) =
    and_verticals (next_vertical number before fields) (λ v. verticals_of (suc number) (Some v.distance) rows)

-- notes have 3 to 200 verticals, and a total that is a discharge
abbrev pub counted : Result (List Vertical) NotesFault → Result (List Vertical) NotesFault
counted (Err fault) = Err fault
counted (Ok verticals) =
    if is_off_count (length verticals) then Err faults.Count
    else (if not (is_discharge (total verticals)) then Err faults.Total else Ok verticals)

-- the verticals of all records, which are counted from 1, that of the names included
abbrev pub verticals_in : List (List (List ℕ)) → Result (List Vertical) NotesFault
verticals_in [] = Err faults.Header
verticals_in (names ∷ rows) = if are_names names then verticals_of 2 None rows else Err faults.Header

-- the records of a text, as the crate `csv` states them
abbrev pub records_of : List ℕ → List (List (List ℕ))
records_of text = records default_config (strip_bom text)

-- what a text is read as
abbrev pub notes_of : List ℕ → Result (List Vertical) NotesFault
notes_of text = counted (verticals_in (records_of text))

-- the name of a fault
abbrev pub code_of : NotesFault → List ℕ
code_of faults.Header = codes "Header"
code_of (faults.Number number) = codes "Number"
code_of (faults.Range number) = codes "Range"
code_of (faults.Order number) = codes "Order"
code_of (faults.Method number) = codes "Method"
code_of faults.Count = codes "Count"
code_of faults.Total = codes "Total"
code_of faults.NoMemory = codes "NoMemory"

-- the record of a fault, 0 where it is none of a record
abbrev pub record_of : NotesFault → ℕ
record_of faults.Header = 0
record_of (faults.Number number) = number
record_of (faults.Range number) = number
record_of (faults.Order number) = number
record_of (faults.Method number) = number
record_of faults.Count = 0
record_of faults.Total = 0
record_of faults.NoMemory = 0
