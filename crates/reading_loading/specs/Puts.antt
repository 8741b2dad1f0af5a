-- The edits that put the readings of a list.
use Rattle.std.specs.Prelude.{◌≡◌, ℕ, ◌+◌, ◌≤◌, List, [], ◌++◌, length, codes, decimal, slice_get, Some}
use Rattle.std.specs.Fork.{slice_chunk}
use Rattle.std.specs.Int.{div_ceil}
use Rattle.edits.specs.Lawful.{most_readings}
use Rattle.edits.specs.Texts.{IsReference}
use Rattle.edits.specs.declared.content.Edit.{Edit}
use Rattle.edits.specs.declared.content.What.{What}
use Rattle.edits.specs.declared.content.What.TheVariants.{PutReadings}
use Rattle.fixed_units.specs.Quantities.{SiteNumber}
use Rattle.fixed_units.specs.declared.readings.Reading.{Reading}

-- what is asked of a text of readings: of which site and column they are, who puts them at that site, and what their references begin with
pub record Order : Type 0 where
  pub site : SiteNumber
  pub column : List ℕ
  pub by : List ℕ
  pub prefix : List ℕ

-- what references begin with is a reference of at most 30 bytes
pub record IsPrefix (text : List ℕ) : Type 0 where
  pub reference : IsReference text
  pub longest : length text ≤ 30

-- the reference of a number: what it begins with, a hyphen and the number
abbrev pub reference_of : List ℕ → ℕ → List ℕ
reference_of prefix number = prefix ++ codes "-" ++ decimal number

-- the edit puts these readings at the site, by the person, under the reference of this number, without a comment
pub record IsPut (order : Order) (number : ℕ) (readings : List Reading) (edit : Edit) : Type 0 where
  pub by : edit.by ≡ order.by
  pub reference : edit.reference ≡ reference_of order.prefix number
  pub site : edit.site ≡ order.site
  pub comment : edit.comment ≡ []
  pub what : edit.what ≡ PutReadings readings

-- the readings that an edit puts
abbrev pub put_by : What → List Reading
put_by (PutReadings readings) = readings
put_by _ = []

abbrev pub readings_put : Edit → List Reading
readings_put edit = put_by edit.what

-- how many edits put so many readings: one for each 100,000, and one for the rest
abbrev pub put_count : ℕ → ℕ
put_count readings = div_ceil readings most_readings

-- The edits put the front of the readings, 100,000 each or what is left of them, in order, under references from 1 on.
pub record AreFirstPuts (order : Order) (readings : List Reading) (edits : List Edit) : Type 0 where
  pub few : length edits ≤ put_count (length readings)
  pub each : (place : ℕ) (edit : Edit) → slice_get edits place ≡ Some edit
      → IsPut order (place + 1) (slice_chunk readings most_readings place) edit

-- and they put all of them
pub record ArePuts (order : Order) (readings : List Reading) (edits : List Edit) : Type 0 where
  pub first : AreFirstPuts order readings edits
  pub all : length edits ≡ put_count (length readings)
