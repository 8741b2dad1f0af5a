-- What a document of stations is, and the edits that it states.
use Rattle.std.specs.Prelude.{◌≡◌, ℕ, ◌≤◌, List, [], ◌∷◌, length, codes, bytes_eq, Bool, true, ◌||◌, Option, Some, None}
use Rattle.std.specs.Str.{IsUtf8}
use Rattle.edits.specs.Texts.{AreInitials}
use Rattle.edits.specs.declared.content.Edit.{Edit}
use Rattle.station_documents.specs.Members.{HasText, all_keys, array_at}
use Rattle.station_documents.specs.Stations.{StatesStation}
use Rattle.toml.specs.Data.{Items, no_items, item, Members, as_table}
use Rattle.toml.specs.Parse.{parse_document}

-- how many bytes a document has at most, and how many stations
abbrev pub most_bytes : ℕ
most_bytes = 4_194_304

abbrev pub most_stations : ℕ
most_stations = 500

-- the keys that a document has
abbrev pub is_document_key : List ℕ → Bool
is_document_key key = bytes_eq key (codes "by") || bytes_eq key (codes "station")

-- it is a table, and that of a station
abbrev pub StatesTable : List ℕ → Option Members → Edit → Type 0
StatesTable by None edit = ⊥
StatesTable by (Some table) edit = StatesStation by table edit

-- each item is the table of a station, and the edits are theirs, in order
abbrev pub StatesEach : List ℕ → Items → List Edit → Type 0
StatesEach by no_items [] = Unit {0}
StatesEach by no_items (edit ∷ edits) = ⊥
StatesEach by (item value others) [] = ⊥
StatesEach by (item value others) (edit ∷ edits) = StatesTable by (as_table value) edit × StatesEach by others edits

-- a table that has the initials of a person, 1 to 500 stations and no further member: the edits are those of the stations
-- by that person
pub record StatesDocument (table : Members) (edits : List Edit) : Type 0 where
  pub by : List ℕ
  pub stations : Items
  pub alone : all_keys is_document_key table ≡ true
  pub sent : HasText AreInitials (codes "by") table by
  pub listed : array_at (codes "station") table ≡ Some stations
  pub fewest : 1 ≤ length edits
  pub most : length edits ≤ most_stations
  pub each : StatesEach by stations edits

-- the bytes are not too many, and a text whose table in TOML states these edits
pub record StatesStations (bytes : List ℕ) (edits : List Edit) : Type 0 where
  pub table : Members
  pub most : length bytes ≤ most_bytes
  pub text : IsUtf8 bytes
  pub read : parse_document bytes ≡ Some table
  pub stated : StatesDocument table edits

-- whatever a document states, it states once
abbrev pub StatesOnce : List ℕ → Type 0
StatesOnce bytes = (edits its_edits : List Edit) → StatesStations bytes edits → StatesStations bytes its_edits → edits ≡ its_edits
