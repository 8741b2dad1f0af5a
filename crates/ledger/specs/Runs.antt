-- What is written of a journal, and how a run ends.
use Rattle.std.specs.Prelude.{◌≡◌, ◌⊎◌, ℕ, suc, ◌<◌, Bool, true, false, List, [], ◌∷◌, ◌++◌, length, All, Option, IfSome, Result, Ok, Err, if◌then◌else◌}
use Rattle.devices.specs.Sinks.{AreWritten}
use Rattle.devices.specs.declared.disks.Disk.{Ghosts}
use Rattle.edits.specs.declared.content.Edit.{Edit}
use Rattle.journal.specs.Reading.{HasEnded, HasRead}
use Rattle.journal.specs.declared.opening.OpenFault.{OpenFault}
use Rattle.journal.specs.declared.opening.OpenFault.TheVariants as refusals
use Rattle.journal.specs.declared.opening.Opening.{Opening}
use Rattle.journal.specs.JournalBytes.{HasAnyHeader, InGrammar, IsDamagedAt, IsJournalOf, front}
use Rattle.ledger.specs.Choices.{is_chosen}
use Rattle.ledger.specs.Lines.{line_text}
use Rattle.ledger.specs.Requests.{IsReadBack, body_text, most_body, request_text}
use Rattle.ledger.specs.declared.choices.Choice.{Choice}
use Rattle.ledger.specs.declared.choices.Form.{Form}
use Rattle.ledger.specs.declared.choices.Form.TheVariants.{Edits, Requests}
use Rattle.ledger.specs.declared.runs.RunEnd.{RunEnd}
use Rattle.ledger.specs.declared.runs.RunEnd.TheVariants.{AllWritten, InputFault, OutputFault, TooLong, NotAJournal, Damaged, TooLarge, NotReadBack, NoMemory}
use Rattle.ledger.specs.declared.runs.TheConstants.{MOST_BYTES}
use Rattle.records.specs.Sheets.{Record}
use Rattle.records.specs.declared.formats.Format.{Format}
use Rattle.whole_inputs.specs.declared.inputs.NotRead.{NotRead}
use Rattle.whole_inputs.specs.declared.inputs.NotRead.TheVariants as unread

-- an edit in the form that is asked for
abbrev pub edit_text : Form → ℕ → Edit → List ℕ
edit_text Edits number edit = line_text number edit
edit_text Requests number edit = request_text edit

-- the same, where it is chosen
abbrev pub chosen_text : Form → Choice → ℕ → Edit → List ℕ
chosen_text form choice number edit = if is_chosen choice number edit then edit_text form number edit else []

-- one text for each of the records that is chosen, in order, the first of them having this number
abbrev pub text_from : Form → Choice → ℕ → List Record → List ℕ
text_from form choice number [] = []
text_from form choice number (piece ∷ pieces) = chosen_text form choice number piece.edit ++ text_from form choice (suc number) pieces

-- the edits of a journal are numbered from 1
abbrev pub ledger_text : Form → Choice → List Record → List ℕ
ledger_text form choice pieces = text_from form choice 1 pieces

-- a request is read as its edit
abbrev pub IsMeantAs : Form → Edit → Type 0
IsMeantAs Edits edit = Unit {0}
IsMeantAs Requests edit = IsReadBack edit

abbrev pub IsMeant : Form → Choice → ℕ → Edit → Type 0
IsMeant form choice number edit = is_chosen choice number edit ≡ true → IsMeantAs form edit

abbrev pub AreMeant : Form → Choice → ℕ → List Record → Type 0
AreMeant form choice number [] = Unit {0}
AreMeant form choice number (piece ∷ pieces) = IsMeant form choice number piece.edit × AreMeant form choice (suc number) pieces

-- the text of an edit of that number was written, and of some first records
abbrev pub WritesEdit : Form → Choice → ℕ → Edit → Option (List ℕ) → Option (List ℕ) → Bool → Type 0
WritesEdit form choice number edit sink after done = AreWritten sink (chosen_text form choice number edit) after done × IsMeant form choice number edit

abbrev pub WritesAll : Form → Choice → List Record → Option (List ℕ) → Option (List ℕ) → Bool → Type 0
WritesAll form choice pieces sink after done = AreWritten sink (ledger_text form choice pieces) after done × AreMeant form choice 1 pieces

-- a file begins with these records
pub record BeginsWith (format : Format) (pieces : List Record) (bytes : List ℕ) : Type 0 where
  pub grammar : All (InGrammar format) pieces
  pub rest : List ℕ
  pub bytes_are : bytes ≡ front format pieces ++ rest

-- a front of the text of some first records was written, or all of it
pub record IsWrittenOf (form : Form) (choice : Choice) (format : Format) (pieces : List Record) (bytes : List ℕ) (sink after : Option (List ℕ)) : Type 0 where
  pub begins : BeginsWith format pieces bytes
  pub written : WritesAll form choice pieces sink after true

pub record IsCutOffIn (form : Form) (choice : Choice) (format : Format) (pieces : List Record) (bytes : List ℕ) (sink after : Option (List ℕ)) : Type 0 where
  pub begins : BeginsWith format pieces bytes
  pub written : WritesAll form choice pieces sink after false

-- the journal was written to its end
pub record IsWhole (form : Form) (choice : Choice) (format : Format) (pieces : List Record) (bytes : List ℕ) (sink after : Option (List ℕ)) : Type 0 where
  pub stands : IsJournalOf format pieces bytes
  pub written : WritesAll form choice pieces sink after true

-- the edit behind these records has a body that is larger than a request takes
pub record IsTooLargeBehind (format : Format) (pieces : List Record) (number : ℕ) (bytes : List ℕ) : Type 0 where
  pub piece : Record
  pub begins : BeginsWith format (pieces ++ piece ∷ []) bytes
  pub number_is : number ≡ suc (length pieces)
  pub large : most_body < length (body_text piece.edit)

-- the edit behind these records has a body that is not read as it
pub record IsNotReadBehind (format : Format) (pieces : List Record) (number : ℕ) (bytes : List ℕ) : Type 0 where
  pub piece : Record
  pub begins : BeginsWith format (pieces ++ piece ∷ []) bytes
  pub number_is : number ≡ suc (length pieces)
  pub differs : ¬ IsReadBack piece.edit

-- what was written at each end of a run over these bytes
abbrev pub EndsBy : RunEnd → Form → Choice → List ℕ → Option (List ℕ) → Option (List ℕ) → Type 0
EndsBy AllWritten form choice bytes sink after = (format : Format) × (pieces : List Record) × IsWhole form choice format pieces bytes sink after
EndsBy InputFault form choice bytes sink after = after ≡ sink
EndsBy OutputFault form choice bytes sink after = (format : Format) × (pieces : List Record) × IsCutOffIn form choice format pieces bytes sink after
EndsBy TooLong form choice bytes sink after = (MOST_BYTES < length bytes) × (after ≡ sink)
EndsBy NotAJournal form choice bytes sink after = (¬ HasAnyHeader bytes) × (after ≡ sink)
EndsBy (Damaged at) form choice bytes sink after =
    (format : Format) × (pieces : List Record) × IsDamagedAt format at bytes × (at ≡ length (front format pieces)) × IsWrittenOf form choice format pieces bytes sink after
EndsBy (TooLarge number) form choice bytes sink after =
    (format : Format) × (pieces : List Record) × IsTooLargeBehind format pieces number bytes × IsWrittenOf form choice format pieces bytes sink after
EndsBy (NotReadBack number) form choice bytes sink after =
    (format : Format) × (pieces : List Record) × IsNotReadBehind format pieces number bytes × IsWrittenOf form choice format pieces bytes sink after
EndsBy NoMemory form choice bytes sink after =
    (after ≡ sink) ⊎ ((format : Format) × (pieces : List Record) × IsWrittenOf form choice format pieces bytes sink after)

-- the same of a source that tells its bytes
abbrev pub Ends : RunEnd → Form → Choice → Option (List ℕ) → Option (List ℕ) → Option (List ℕ) → Type 0
Ends end form choice source sink after = IfSome source (λ bytes. EndsBy end form choice bytes sink after)

-- how a run ends whose input is not read
abbrev pub end_unread : NotRead → RunEnd
end_unread unread.Failed = InputFault
end_unread unread.TooLong = TooLong
end_unread unread.NoMemory = NoMemory

-- how it ends over bytes that are not opened, or not read on
abbrev pub end_refused : OpenFault → RunEnd
end_refused refusals.Fault = NoMemory
end_refused refusals.NotAJournal = NotAJournal
end_refused (refusals.Damaged at) = Damaged at
end_refused refusals.NoMemory = NoMemory

-- why an edit of that number has no text
abbrev pub IsNoText : RunEnd → ℕ → Edit → Type 0
IsNoText AllWritten number edit = ⊥
IsNoText InputFault number edit = ⊥
IsNoText OutputFault number edit = ⊥
IsNoText TooLong number edit = ⊥
IsNoText NotAJournal number edit = ⊥
IsNoText (Damaged at) number edit = ⊥
IsNoText (TooLarge its_number) number edit = (its_number ≡ number) × (most_body < length (body_text edit))
IsNoText (NotReadBack its_number) number edit = (its_number ≡ number) × (¬ IsReadBack edit)
IsNoText NoMemory number edit = Unit {0}

-- why an edit was not written, and what of it was
abbrev pub IsUnwritten : RunEnd → Form → Choice → ℕ → Edit → Option (List ℕ) → Option (List ℕ) → Type 0
IsUnwritten OutputFault form choice number edit sink after = WritesEdit form choice number edit sink after false
IsUnwritten end form choice number edit sink after = IsNoText end number edit × (after ≡ sink)

-- what comes of the next record behind these, of which the first has the number 1
abbrev pub StopsBehind : {D : Type 0} {g : Ghosts D} → RunEnd → Form → Choice → ℕ → List Record → Opening D g → Option (List ℕ) → Option (List ℕ) → Type 0
StopsBehind {g = g} (Damaged at) form choice number pieces opening sink after =
    HasRead pieces opening × IfSome (g.content opening.ahead.disk) (IsDamagedAt opening.format at) × (at ≡ length (front opening.format pieces)) × (after ≡ sink)
StopsBehind NoMemory form choice number pieces opening sink after = after ≡ sink
StopsBehind end form choice number pieces opening sink after =
    (piece : Record) × HasRead (pieces ++ piece ∷ []) opening × IsUnwritten end form choice number piece.edit sink after

abbrev pub GoesOn : {D : Type 0} {g : Ghosts D} → Form → Choice → ℕ → List Record → Opening D g → Option (List ℕ) → Option (List ℕ) → Result Bool RunEnd → Type 0
GoesOn form choice number pieces opening sink after (Ok true) =
    (piece : Record) × HasRead (pieces ++ piece ∷ []) opening × WritesEdit form choice number piece.edit sink after true
GoesOn form choice number pieces opening sink after (Ok false) = HasEnded pieces opening × (after ≡ sink)
GoesOn form choice number pieces opening sink after (Err end) = StopsBehind end form choice number pieces opening sink after
