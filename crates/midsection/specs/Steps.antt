-- What the next record adds to the verticals that were read.
use Rattle.std.specs.Prelude.{◌≡◌, ◌⊎◌, ℕ, true, false, List, [], ◌∷◌, ◌++◌, Option, None, Some, Result, Ok, Err, ℤ}
use Rattle.std.specs.Borrow.{Bor}
use Rattle.csv.specs.Reading.{default_config, names_headers, reader_config, reader_headers, reader_state, reader_trim, source_of, strip_bom}
use Rattle.csv.specs.declared.parser.State.TheVariants as st
use Rattle.csv.specs.declared.reader.Reader.{Reader}
use Rattle.csv.specs.declared.reader.Trim.TheVariants as trim
use Rattle.midsection.specs.Reading.{are_names, next_vertical}
use Rattle.midsection.specs.declared.faults.NotesFault.{NotesFault}
use Rattle.midsection.specs.declared.faults.NotesFault.TheVariants as faults
use Rattle.midsection.specs.declared.verticals.Vertical.{Vertical}

-- a reader of a text has read nothing, and reads by the usual settings, but that no record gives names
pub record IsFresh (reader : Reader (Bor (List ℕ))) (text : List ℕ) : Type 0 where
  pub plain : reader_trim reader ≡ trim.None
  pub unnamed : names_headers reader ≡ false
  pub none : reader_headers reader ≡ None
  pub config : reader_config reader ≡ default_config
  pub state : reader_state reader ≡ st.StartRecord
  pub source : source_of (λ s. Some s.now) reader ≡ Some (strip_bom text)

-- the first record names the fields, and nothing is added
abbrev pub AddsNames : List Vertical → List (List ℕ) → Result (Unit {0}) NotesFault → Option ℤ → List Vertical → Type 0
AddsNames kept fields (Ok done) before more = (are_names fields ≡ true) × (before ≡ None) × (more ≡ kept)
AddsNames kept fields (Err fault) before more = (are_names fields ≡ false) × (fault ≡ faults.Header)

-- a further record adds its vertical
abbrev pub AddsVertical : ℕ → Option ℤ → List Vertical → List (List ℕ) → Result (Unit {0}) NotesFault → Option ℤ → List Vertical → Type 0
AddsVertical number last kept fields (Ok done) before more =
    (v : Vertical) × (next_vertical number last fields ≡ Ok v) × (before ≡ Some v.distance) × (more ≡ kept ++ v ∷ [])
AddsVertical number last kept fields (Err fault) before more = (fault ≡ faults.NoMemory) ⊎ (next_vertical number last fields ≡ Err fault)
