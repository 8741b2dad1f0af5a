-- How far the records of one journal are those of another.
use Rattle.std.specs.Prelude.{◌≡◌, ℕ, ◌+◌, Bool, true, false, List, [], ◌∷◌, ◌++◌, length}
use mathlib.Core.List.{IsPrefix}
use Rattle.records.specs.Sheets.{Record}

-- The record of this number, from 1, is the first of the copied ones that is not the record in its place: all before it are, and in its place
-- stands another one or none.
pub record DiffersAt (number : ℕ) (records copied : List Record) : Type 0 where
  pub before : List Record
  pub other : Record
  pub behind : List Record
  pub copied_are : copied ≡ before ++ other ∷ behind
  pub number_is : number ≡ length before + 1
  pub same : IsPrefix before records
  pub differs : ¬ (IsPrefix (before ++ other ∷ []) records)

-- so many of the copied records are the first of these, and no further one was looked at; or the one behind them is another
abbrev pub IsMatched : Bool → ℕ → List Record → List Record → Type 0
IsMatched false same records copied = IsPrefix copied records × (length copied ≡ same)
IsMatched true same records copied = DiffersAt (same + 1) records copied
