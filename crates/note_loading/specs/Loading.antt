-- What was read, written and asked where measurement notes were loaded.
use Rattle.std.specs.Prelude.{◌≡◌, ◌⊎◌, ℕ, ℤ, ◌+◌, ◌<◌, ◌≤◌, Bool, true, false, List, [], ◌++◌, length, codes, Option, IfSome, IsSomeAnd, Ok, Err, ⊤}
use Rattle.desk.specs.Endings.{StopsWithin}
use Rattle.devices.specs.Sinks.{AreWritten, IsCutShort}
use Rattle.edits.specs.declared.content.Edit.{Edit}
use Rattle.history.specs.Events.{History}
use Rattle.midsection.specs.Midsection.{total}
use Rattle.midsection.specs.Reading.{notes_of}
use Rattle.midsection.specs.declared.verticals.Vertical.{Vertical}
use Rattle.note_loading.specs.Endings.{IsUnasked}
use Rattle.note_loading.specs.Figures.{figures_text}
use Rattle.note_loading.specs.Visits.{IsEditOf}
use Rattle.note_loading.specs.declared.endings.NotesEnd.{NotesEnd}
use Rattle.note_loading.specs.declared.endings.NotesEnd.TheVariants as ends
use Rattle.note_loading.specs.declared.loading.Figures.{Figures}
use Rattle.note_loading.specs.declared.visits.Visit.{Visit}
use Rattle.told_edits.specs.Lines.{IsSent}
use Rattle.whole_inputs.specs.Inputs.{IsTakenAtMost}

-- as many bytes as notes may have
abbrev pub most_bytes : ℕ
most_bytes = 1_048_576

-- the office was asked the measurement of a visit with this discharge, and what it answered is told in this line
pub record IsAsked (v : Visit) (discharge : ℤ) (h : History) (line : List ℕ) (after : History) : Type 0 where
  pub edit : Edit
  pub edit_is : IsEditOf v discharge edit
  pub sent : IsSent (codes "\n") h edit line after

-- All was written, and the office was asked; or the sink failed, within the lines of the figures before the office was asked, or within
-- the line that tells what it answered.
abbrev pub TellsAll : Visit → ℤ → List ℕ → History → History → List ℕ → Type 0
TellsAll v discharge text h after written = (line : List ℕ) × IsAsked v discharge h line after × (written ≡ text ++ line)

abbrev pub StopsInFigures : List ℕ → History → History → List ℕ → Type 0
StopsInFigures text h after written = (after ≡ h) × IsCutShort written text

abbrev pub StopsInAnswer : Visit → ℤ → List ℕ → History → History → List ℕ → Type 0
StopsInAnswer v discharge text h after written = (line : List ℕ) × IsAsked v discharge h line after × StopsWithin text line written

abbrev pub Tells : Bool → Visit → ℤ → List ℕ → History → History → List ℕ → Type 0
Tells true v discharge text h after written = TellsAll v discharge text h after written
Tells false v discharge text h after written =
    StopsInFigures text h after written ⊎ StopsInAnswer v discharge text h after written

-- no edit was asked, and nothing was written
abbrev pub NothingDone : History → History → List ℕ → Type 0
NothingDone h after written = (after ≡ h) × (written ≡ [])

-- the verticals of the input were computed and told
abbrev pub TellsNotes : Bool → Visit → List ℕ → History → History → List ℕ → Type 0
TellsNotes done v input h after written =
    (verticals : List Vertical) × (notes_of input ≡ Ok verticals) × Tells done v (total verticals) (figures_text verticals) h after written

-- all of the input was taken, and it is no longer than notes may be
abbrev pub IsAllOf : List ℕ → List ℕ → Type 0
IsAllOf input left = (left ≡ []) × (length input ≤ most_bytes)

-- what was written and has happened at each end, by the input
abbrev pub LoadsBy : NotesEnd → Visit → History → List ℕ → List ℕ → History → List ℕ → Type 0
LoadsBy ends.Done v h input left after written = IsAllOf input left × TellsNotes true v input h after written
LoadsBy ends.OutputFault v h input left after written = IsAllOf input left × TellsNotes false v input h after written
LoadsBy ends.TooLong v h input left after written = (most_bytes < length input) × NothingDone h after written
LoadsBy (ends.Refused fault) v h input left after written = IsAllOf input left × (notes_of input ≡ Err fault) × NothingDone h after written
LoadsBy ends.InputFault v h input left after written = NothingDone h after written
LoadsBy ends.NoMemory v h input left after written = NothingDone h after written

-- Notes were loaded, from one history to another. No more of the input was taken than tells whether it is too long for notes.
pub record Loads (v : Visit) (h after : History) (end : NotesEnd) (input left written : List ℕ) : Type 0 where
  pub ends : LoadsBy end v h input left after written
  pub taken : IsTakenAtMost (most_bytes + 1) input left

-- The same, where the source tells its bytes. What was written is at the end of a sink that tells its own; one that does not may have any
-- such text, and the office was asked the edit all the same. Where it was asked nothing the history stays, whatever the two tell.
pub record IsLoaded (v : Visit) (h after : History) (end : NotesEnd) (left_before left_after written_before written_after : Option (List ℕ)) : Type 0 where
  pub loads : IfSome left_before (λ input. IsSomeAnd left_after (λ left.
      (written : List ℕ) × Loads v h after end input left written × AreWritten written_before written written_after true))
  pub unasked : IsUnasked end → after ≡ h

-- a text states notes of these figures
pub record IsStatedAs (text : List ℕ) (figures : Figures) : Type 0 where
  pub verticals : List Vertical
  pub stated : notes_of text ≡ Ok verticals
  pub text_is : figures.text ≡ figures_text verticals
  pub total_is : figures.total ≡ total verticals

-- it states none, which tells this end, or there was no memory
abbrev pub IsUnstated : List ℕ → NotesEnd → Type 0
IsUnstated text ends.Done = ⊥
IsUnstated text ends.InputFault = ⊥
IsUnstated text ends.OutputFault = ⊥
IsUnstated text ends.TooLong = ⊥
IsUnstated text (ends.Refused fault) = notes_of text ≡ Err fault
IsUnstated text ends.NoMemory = ⊤

-- all of the input was taken, and states notes of these figures
abbrev pub IsReadAs : Option (List ℕ) → Figures → Option (List ℕ) → Type 0
IsReadAs before figures after = IfSome before (λ input. IsSomeAnd after (λ left. IsStatedAs input figures × IsAllOf input left))

-- the input is too long, or states no notes
abbrev pub EndsUnread : NotesEnd → List ℕ → List ℕ → Type 0
EndsUnread ends.Done input left = ⊥
EndsUnread ends.InputFault input left = ⊤
EndsUnread ends.OutputFault input left = ⊥
EndsUnread ends.TooLong input left = most_bytes < length input
EndsUnread (ends.Refused fault) input left = IsAllOf input left × (notes_of input ≡ Err fault)
EndsUnread ends.NoMemory input left = ⊤

abbrev pub IsUnread : Option (List ℕ) → NotesEnd → Option (List ℕ) → Type 0
IsUnread before end after = IfSome before (λ input. IsSomeAnd after (EndsUnread end input))

-- figures were told, on a sink that has this at its end where it tells what it has
abbrev pub AreTold : Visit → Figures → History → Bool → History → Option (List ℕ) → Option (List ℕ) → Type 0
AreTold v figures h done after before now =
    (written : List ℕ) × Tells done v figures.total figures.text h after written × AreWritten before written now true
