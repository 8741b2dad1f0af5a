-- What was written of the first records of a journal, and how a run ends.
use Rattle.std.proofs.Common.{◌≡◌, ◌≢◌, inl, inr, ℕ, suc, ◌+◌, ◌<◌, ◌≤◌, Bool, true, false, if◌then◌else◌, List, [], ◌∷◌, ◌++◌, length, Option, Some, None, IfSome, Err, refl, sym, ap, subst, ◌∙◌, arith}
use Rattle.std.proofs.lemmas.List.{append_assoc, append-nil}
use Rattle.devices.specs.Faults.{Rose}
use Rattle.devices.specs.Sinks.{AreWritten}
use Rattle.devices.specs.declared.disks.Disk.{Ghosts}
use Rattle.edits.specs.declared.content.Edit.{Edit}
use Rattle.journal.specs.JournalBytes.{IsClosed, IsDamagedAt, IsJournalOf, front}
use Rattle.journal.specs.Reading.{HasEnded, HasRead, IsRefusal, ReadsOn}
use Rattle.journal.specs.declared.opening.OpenFault.{OpenFault}
use Rattle.journal.specs.declared.opening.OpenFault.TheVariants as refusals
use Rattle.journal.specs.declared.opening.Opening.{Opening}
use Rattle.journal.proofs.Stages.{length_front-push}
use Rattle.ledger.proofs.JoinLemmas.{joined}
use Rattle.ledger.specs.Choices.{is_chosen}
use Rattle.ledger.specs.Runs.{AreMeant, BeginsWith, Ends, EndsBy, IsMeant, IsMeantAs, IsNoText, IsUnwritten, StopsBehind, WritesAll, WritesEdit, chosen_text, edit_text, end_refused, end_unread, ledger_text, text_from}
use Rattle.ledger.specs.declared.choices.Choice.{Choice}
use Rattle.ledger.specs.declared.choices.Form.{Form}
use Rattle.ledger.specs.declared.runs.RunEnd.{RunEnd}
use Rattle.ledger.specs.declared.runs.RunEnd.TheVariants.{AllWritten, InputFault, OutputFault, TooLong, NotAJournal, Damaged, TooLarge, NotReadBack, NoMemory}
use Rattle.ledger.specs.declared.runs.TheConstants.{MOST_BYTES}
use Rattle.records.specs.Sheets.{Record}
use Rattle.records.specs.declared.formats.Format.{Format}
use Rattle.whole_inputs.specs.Inputs.{IsWhole}
use Rattle.whole_inputs.specs.declared.inputs.NotRead.{NotRead}
use Rattle.whole_inputs.specs.declared.inputs.NotRead.TheVariants as unread

-- ---- what a sink has

pub nothing_written : (w : Option (List ℕ)) → AreWritten w [] w true
nothing_written None = tt
nothing_written (Some b) = sym (append-nil b)

pub written_more : (w0 w1 w2 : Option (List ℕ)) (a b : List ℕ) (done : Bool) → AreWritten w0 a w1 true → AreWritten w1 b w2 done → AreWritten w0 (a ++ b) w2 done
written_more None w1 w2 a b done h k = tt
written_more (Some b0) None w2 a b done h k = absurd h
written_more (Some b0) (Some b1) None a b done h k = absurd k
written_more (Some b0) (Some b1) (Some b2) a b true h k = joined b0 b1 b2 a b h k
written_more (Some b0) (Some b1) (Some b2) a b false h (part, added, (more, some, whole)) =
    (a ++ part, joined b0 b1 b2 a part h added, (more, some, ap (λ (l : List ℕ). a ++ l) whole ∙ sym (append_assoc a part more)))

-- ---- the text of one record more

pub text_push : (form : Form) (choice : Choice) (n : ℕ) (pieces : List Record) (piece : Record)
    → text_from form choice n (pieces ++ piece ∷ []) ≡ text_from form choice n pieces ++ chosen_text form choice (n + length pieces) piece.edit
text_push form choice n [] piece =
    let same : n ≡ n + 0 = omega arith in
    append-nil (chosen_text form choice n piece.edit) ∙ ap (λ (k : ℕ). chosen_text form choice k piece.edit) same
text_push form choice n (first ∷ pieces) piece =
    let shift : suc n + length pieces ≡ n + length (first ∷ pieces) = omega arith in
    ap (λ (l : List ℕ). chosen_text form choice n first.edit ++ l)
    (text_push form choice (suc n) pieces piece ∙ ap (λ (k : ℕ). text_from form choice (suc n) pieces ++ chosen_text form choice k piece.edit) shift)
    ∙ sym (append_assoc (chosen_text form choice n first.edit) (text_from form choice (suc n) pieces) (chosen_text form choice (n + length (first ∷ pieces)) piece.edit))

pub meant_push : (form : Form) (choice : Choice) (n : ℕ) (pieces : List Record) (piece : Record)
    → AreMeant form choice n pieces → IsMeant form choice (n + length pieces) piece.edit → AreMeant form choice n (pieces ++ piece ∷ [])
meant_push form choice n [] piece all this =
    let same : n + 0 ≡ n = omega arith in
    (subst (λ (k : ℕ). IsMeant form choice k piece.edit) same this, tt)
meant_push form choice n (first ∷ pieces) piece all this =
    let shift : n + length (first ∷ pieces) ≡ suc n + length pieces = omega arith in
    (all.0, meant_push form choice (suc n) pieces piece all.1 (subst (λ (k : ℕ). IsMeant form choice k piece.edit) shift this))

pub one_more : (form : Form) (choice : Choice) (number : ℕ) (pieces : List Record) (piece : Record) (w0 w1 w2 : Option (List ℕ)) (done : Bool) → number ≡ suc (length pieces)
    → WritesAll form choice pieces w0 w1 true → WritesEdit form choice number piece.edit w1 w2 done → WritesAll form choice (pieces ++ piece ∷ []) w0 w2 done
one_more form choice number pieces piece w0 w1 w2 done is so_far this =
    let numbered : number ≡ 1 + length pieces = omega (arith, is) in
    let next = subst (λ (k : ℕ). WritesEdit form choice k piece.edit w1 w2 done) numbered this in (
      subst (λ (l : List ℕ). AreWritten w0 l w2 done) (sym (text_push form choice 1 pieces piece))
          (written_more w0 w1 w2 (ledger_text form choice pieces) (chosen_text form choice (1 + length pieces) piece.edit) done so_far.0 next.0),
      meant_push form choice 1 pieces piece so_far.1 next.1,
    )

-- ---- the records that were read

pub begins : {D : Type 0} {g : Ghosts D} (pieces : List Record) (opening : Opening D g) (bytes : List ℕ) → g.content opening.ahead.disk ≡ Some bytes
    → HasRead pieces opening → BeginsWith opening.format pieces bytes
begins pieces opening bytes told read =
    let rest = subst (λ (o : Option (List ℕ)). IfSome o (λ bs. (rest : List ℕ) × (bs ≡ front opening.format pieces ++ rest))) told read.bytes in
    record { grammar = read.grammar; rest = rest.0; bytes_are = rest.1 }

stands : {D : Type 0} {g : Ghosts D} (pieces : List Record) (opening : Opening D g) (bytes : List ℕ) → g.content opening.ahead.disk ≡ Some bytes
    → HasEnded pieces opening → IsJournalOf opening.format pieces bytes
stands pieces opening bytes told ended =
    let rest = subst (λ (o : Option (List ℕ)). IfSome o (λ bs. (rest : List ℕ) × (bs ≡ front opening.format pieces ++ rest) × IsClosed rest)) told ended.bytes in
    record { grammar = ended.grammar; rest = rest.0; bytes_are = rest.1; closed = rest.2 }

-- the gate moves on
pub gate_moves : {D : Type 0} {g : Ghosts D} (pieces : List Record) (piece : Record) (before after : Opening D g) → after.format ≡ before.format
    → HasRead pieces before → HasRead (pieces ++ piece ∷ []) after → before.gate < after.gate
gate_moves pieces piece before after same h k =
    let push = length_front-push after.format pieces piece in
    let from = h.gate ∙ ap (λ (f : Format). length (front f pieces)) (sym same) in
    let to = k.gate in
    omega (arith, push, from, to)

-- ---- one record

pub no_text_unwritten : (end : RunEnd) (form : Form) (choice : Choice) (number : ℕ) (edit : Edit) (w : Option (List ℕ)) → IsNoText end number edit → IsUnwritten end form choice number edit w w
no_text_unwritten AllWritten form choice number edit w h = absurd h
no_text_unwritten InputFault form choice number edit w h = absurd h
no_text_unwritten OutputFault form choice number edit w h = absurd h
no_text_unwritten TooLong form choice number edit w h = absurd h
no_text_unwritten NotAJournal form choice number edit w h = absurd h
no_text_unwritten (Damaged at) form choice number edit w h = absurd h
no_text_unwritten (TooLarge its_number) form choice number edit w h = (h, refl)
no_text_unwritten (NotReadBack its_number) form choice number edit w h = (h, refl)
no_text_unwritten NoMemory form choice number edit w h = (h, refl)

pub no_text_no_output : (end : RunEnd) (number : ℕ) (edit : Edit) → IsNoText end number edit → end ≡ OutputFault → ⊥
no_text_no_output end number edit h e = subst (λ (x : RunEnd). IsNoText x number edit) e h

pub chosen_is : (form : Form) (choice : Choice) (number : ℕ) (edit : Edit) → is_chosen choice number edit ≡ true → chosen_text form choice number edit ≡ edit_text form number edit
chosen_is form choice number edit e = ap (λ (b : Bool). if b then edit_text form number edit else []) e

pub chosen_writes : (form : Form) (choice : Choice) (number : ℕ) (edit : Edit) (text : List ℕ) (w w2 : Option (List ℕ)) (done : Bool) → is_chosen choice number edit ≡ true → text ≡ edit_text form number edit
    → IsMeantAs form edit → AreWritten w text w2 done → WritesEdit form choice number edit w w2 done
chosen_writes form choice number edit text w w2 done e is meant written =
    (subst (λ (l : List ℕ). AreWritten w l w2 done) (is ∙ sym (chosen_is form choice number edit e)) written, λ _. meant)

pub passed_over : (form : Form) (choice : Choice) (number : ℕ) (edit : Edit) (w : Option (List ℕ)) → is_chosen choice number edit ≡ false → WritesEdit form choice number edit w w true
passed_over form choice number edit w e =
    let none : chosen_text form choice number edit ≡ [] = ap (λ (b : Bool). if b then edit_text form number edit else []) e in
    (subst (λ (l : List ℕ). AreWritten w l w true) (sym none) (nothing_written w), λ chosen. absurd (let both = sym chosen ∙ e in cc))

pub unwritten_stops : {D : Type 0} {g : Ghosts D} (end : RunEnd) (form : Form) (choice : Choice) (number : ℕ) (pieces : List Record) (piece : Record) (opening : Opening D g) (w w2 : Option (List ℕ))
    → HasRead (pieces ++ piece ∷ []) opening → IsUnwritten end form choice number piece.edit w w2 → StopsBehind end form choice number pieces opening w w2
unwritten_stops AllWritten form choice number pieces piece opening w w2 read h = (piece, read, h)
unwritten_stops InputFault form choice number pieces piece opening w w2 read h = (piece, read, h)
unwritten_stops OutputFault form choice number pieces piece opening w w2 read h = (piece, read, h)
unwritten_stops TooLong form choice number pieces piece opening w w2 read h = (piece, read, h)
unwritten_stops NotAJournal form choice number pieces piece opening w w2 read h = (piece, read, h)
unwritten_stops (Damaged at) form choice number pieces piece opening w w2 read h = absurd h.0
unwritten_stops (TooLarge its_number) form choice number pieces piece opening w w2 read h = (piece, read, h)
unwritten_stops (NotReadBack its_number) form choice number pieces piece opening w w2 read h = (piece, read, h)
unwritten_stops NoMemory form choice number pieces piece opening w w2 read h = h.1

pub refused_stops : {D : Type 0} {g : Ghosts D} (fault : OpenFault) (form : Form) (choice : Choice) (number : ℕ) (pieces : List Record) (opening : Opening D g) (w : Option (List ℕ))
    → ReadsOn pieces opening (Err fault) → ((at : ℕ) → fault ≡ refusals.Damaged at → at ≡ length (front opening.format pieces))
    → StopsBehind (end_refused fault) form choice number pieces opening w w
refused_stops refusals.Fault form choice number pieces opening w read place = refl
refused_stops refusals.NotAJournal form choice number pieces opening w read place = absurd read
refused_stops (refusals.Damaged at) form choice number pieces opening w read place = (read.0, read.1, place at refl, refl)
refused_stops refusals.NoMemory form choice number pieces opening w read place = refl

pub refused_no_output : (fault : OpenFault) → end_refused fault ≡ OutputFault → ⊥
refused_no_output refusals.Fault e = absurd cc
refused_no_output refusals.NotAJournal e = absurd cc
refused_no_output (refusals.Damaged at) e = absurd cc
refused_no_output refusals.NoMemory e = absurd cc

pub refused_no_input : (fault : OpenFault) → end_refused fault ≢ InputFault
refused_no_input refusals.Fault e = absurd cc
refused_no_input refusals.NotAJournal e = absurd cc
refused_no_input (refusals.Damaged at) e = absurd cc
refused_no_input refusals.NoMemory e = absurd cc

pub rose_earlier : (a b c : ℕ) → a ≤ b → Rose b c → Rose a c
rose_earlier a b c less rose = omega arith

-- ---- ends

module _ {D : Type 0} {g : Ghosts D} (form : Form) (choice : Choice) (number : ℕ) (pieces : List Record) (opening : Opening D g) (bytes : List ℕ) (w0 w1 w2 : Option (List ℕ))
    (told : g.content opening.ahead.disk ≡ Some bytes) (before : BeginsWith opening.format pieces bytes) (is : number ≡ suc (length pieces))
    (so_far : WritesAll form choice pieces w0 w1 true) where
  still : w2 ≡ w1 → WritesAll form choice pieces w0 w2 true
  still same = subst (λ (w : Option (List ℕ)). WritesAll form choice pieces w0 w true) (sym same) so_far

  pub whole_ends : HasEnded pieces opening × (w2 ≡ w1) → EndsBy AllWritten form choice bytes w0 w2
  whole_ends (ended, same) = (opening.format, pieces, record { stands = stands pieces opening bytes told ended; written = still same })

  pub stopped_ends : (end : RunEnd) → StopsBehind end form choice number pieces opening w1 w2 → EndsBy end form choice bytes w0 w2
  stopped_ends AllWritten (piece, read, h) = absurd h.0
  stopped_ends InputFault (piece, read, h) = absurd h.0
  stopped_ends OutputFault (piece, read, h) =
      (opening.format, pieces ++ piece ∷ [], record { begins = begins (pieces ++ piece ∷ []) opening bytes told read; written = one_more form choice number pieces piece w0 w1 w2 false is so_far h })
  stopped_ends TooLong (piece, read, h) = absurd h.0
  stopped_ends NotAJournal (piece, read, h) = absurd h.0
  stopped_ends (Damaged at) (read, damaged, place, same) =
      (opening.format, pieces, subst (λ (o : Option (List ℕ)). IfSome o (IsDamagedAt opening.format at)) told damaged, place, record { begins = before; written = still same })
  stopped_ends (TooLarge its_number) (piece, read, h) = (
    opening.format,
    pieces,
    record { piece = piece; begins = begins (pieces ++ piece ∷ []) opening bytes told read; number_is = h.0.0 ∙ is; large = h.0.1 },
    record { begins = before; written = still h.1 },
  )
  stopped_ends (NotReadBack its_number) (piece, read, h) = (
    opening.format,
    pieces,
    record { piece = piece; begins = begins (pieces ++ piece ∷ []) opening bytes told read; number_is = h.0.0 ∙ is; differs = h.0.1 },
    record { begins = before; written = still h.1 },
  )
  stopped_ends NoMemory same = inr (opening.format, pieces, record { begins = before; written = still same })

pub stops_no_input : {D : Type 0} {g : Ghosts D} (end : RunEnd) (form : Form) (choice : Choice) (number : ℕ) (pieces : List Record) (opening : Opening D g) (w w2 : Option (List ℕ))
    → StopsBehind end form choice number pieces opening w w2 → end ≢ InputFault
stops_no_input AllWritten form choice number pieces opening w w2 h e = absurd cc
stops_no_input InputFault form choice number pieces opening w w2 h e = h.2.0
stops_no_input OutputFault form choice number pieces opening w w2 h e = absurd cc
stops_no_input TooLong form choice number pieces opening w w2 h e = absurd cc
stops_no_input NotAJournal form choice number pieces opening w w2 h e = absurd cc
stops_no_input (Damaged at) form choice number pieces opening w w2 h e = absurd cc
stops_no_input (TooLarge its_number) form choice number pieces opening w w2 h e = absurd cc
stops_no_input (NotReadBack its_number) form choice number pieces opening w w2 h e = absurd cc
stops_no_input NoMemory form choice number pieces opening w w2 h e = absurd cc

pub same_bytes : (a b t : List ℕ) → Some a ≡ Some b → b ≡ t → a ≡ t
same_bytes a b t e f = subst (λ (o : Option (List ℕ)). IfSome o (λ l. a ≡ l)) e refl ∙ f

refused_over : (fault : OpenFault) (form : Form) (choice : Choice) (bytes : List ℕ) (m n : ℕ) (w : Option (List ℕ)) → IsRefusal (Some bytes) fault m n → EndsBy (end_refused fault) form choice bytes w w
refused_over refusals.Fault form choice bytes m n w h = inl refl
refused_over refusals.NotAJournal form choice bytes m n w h = (h, refl)
refused_over (refusals.Damaged at) form choice bytes m n w h = absurd h
refused_over refusals.NoMemory form choice bytes m n w h = absurd h

pub refused_ends : (fault : OpenFault) (form : Form) (choice : Choice) (bytes text : List ℕ) (m n : ℕ) (w : Option (List ℕ)) → bytes ≡ text → IsRefusal (Some bytes) fault m n
    → EndsBy (end_refused fault) form choice text w w
refused_ends fault form choice bytes text m n w e h = subst (λ (t : List ℕ). EndsBy (end_refused fault) form choice t w w) e (refused_over fault form choice bytes m n w h)

-- a source that was read whole, or was not
pub whole_ends_run : (end : RunEnd) (form : Form) (choice : Choice) (source after : Option (List ℕ)) (text : List ℕ) (w w2 : Option (List ℕ)) → IsWhole source text after
    → EndsBy end form choice text w w2 → Ends end form choice source w w2
whole_ends_run end form choice None after text w w2 whole h = tt
whole_ends_run end form choice (Some input) None text w w2 whole h = absurd whole
whole_ends_run end form choice (Some input) (Some left) text w w2 whole h = subst (λ (t : List ℕ). EndsBy end form choice t w w2) (sym whole.0) h

pub unread_ends : (error : NotRead) (form : Form) (choice : Choice) (source w : Option (List ℕ)) → (error ≡ unread.TooLong → IfSome source (λ input. MOST_BYTES < length input))
    → Ends (end_unread error) form choice source w w
unread_ends error form choice None w long = tt
unread_ends unread.Failed form choice (Some input) w long = refl
unread_ends unread.TooLong form choice (Some input) w long = (long refl, refl)
unread_ends unread.NoMemory form choice (Some input) w long = inl refl

pub unread_failed : (error : NotRead) → end_unread error ≡ InputFault → error ≡ unread.Failed
unread_failed unread.Failed e = refl
unread_failed unread.TooLong e = absurd cc
unread_failed unread.NoMemory e = absurd cc

pub unread_no_output : (error : NotRead) → end_unread error ≡ OutputFault → ⊥
unread_no_output unread.Failed e = absurd cc
unread_no_output unread.TooLong e = absurd cc
unread_no_output unread.NoMemory e = absurd cc
