-- What happened in an office, in order.
use Rattle.std.specs.Prelude.{ℕ, List, Option, ℤ}
use Rattle.fixed_units.specs.Quantities.{SiteNumber}
use Rattle.office_inputs.specs.declared.limits.Limits.{Limits}
use Rattle.records.specs.declared.formats.Format.{Format}
use Rattle.records.specs.Sheets.{Record}

-- an edit was accepted, with its record; the value of a day was published; or a fault of the journal refused an edit, which left
-- the journal in doubt of a record or of none
pub data Event : Type 0 where
  Accepted : Record → Event
  Published : SiteNumber → ℤ → Event
  Faulted : Option Record → Event

-- a history: how many edits the office was opened with, what it keeps to, the format of its journal, and what happened, these edits
-- first
pub record History : Type 0 where
  pub opened : ℕ
  pub limits : Limits
  pub format : Format
  pub events : List Event
