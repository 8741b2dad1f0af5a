-- The figures of an input, and why it has none.
use Rattle.std.proofs.Common.{◌≡◌, ◌∙◌, refl, sym, subst, ℕ, ◌+◌, ◌<◌, ◌≤◌, List, [], length, Option, Some, None, IfSome, Result, Ok, Err, inl, inr}
use Rattle.std.specs.Prelude.{◌⊎◌}
use Rattle.midsection.specs.Reading.{notes_of}
use Rattle.midsection.specs.declared.faults.NotesFault.{NotesFault}
use Rattle.midsection.specs.declared.faults.NotesFault.TheVariants as faults
use Rattle.note_loading.specs.Endings.{end_refused, end_unread}
use Rattle.note_loading.specs.Loading.{EndsUnread, IsReadAs, IsStatedAs, IsUnread, IsUnstated, most_bytes}
use Rattle.note_loading.specs.declared.endings.NotesEnd.{NotesEnd}
use Rattle.note_loading.specs.declared.endings.NotesEnd.TheVariants as ends
use Rattle.note_loading.specs.declared.loading.Figures.{Figures}
use Rattle.whole_inputs.specs.Inputs.{IsTakenWithin, IsWhole}
use Rattle.whole_inputs.specs.declared.inputs.NotRead.{NotRead}
use Rattle.whole_inputs.specs.declared.inputs.NotRead.TheVariants as unread

-- a text that is no notes tells its fault
told : (text : List ℕ) (fault : NotesFault) → (fault ≡ faults.NoMemory) ⊎ (notes_of text ≡ Err fault) → IsUnstated text (end_refused fault)
told text faults.Header (inl e) = absurd (cc e)
told text faults.Header (inr e) = e
told text (faults.Number number) (inl e) = absurd (cc e)
told text (faults.Number number) (inr e) = e
told text (faults.Range number) (inl e) = absurd (cc e)
told text (faults.Range number) (inr e) = e
told text (faults.Order number) (inl e) = absurd (cc e)
told text (faults.Order number) (inr e) = e
told text (faults.Method number) (inl e) = absurd (cc e)
told text (faults.Method number) (inr e) = e
told text faults.Count (inl e) = absurd (cc e)
told text faults.Count (inr e) = e
told text faults.Total (inl e) = absurd (cc e)
told text faults.Total (inr e) = e
told text faults.NoMemory e = tt

pub unstated : (text : List ℕ) (fault : NotesFault) (end : NotesEnd) → end ≡ end_refused fault → (fault ≡ faults.NoMemory) ⊎ (notes_of text ≡ Err fault) → IsUnstated text end
unstated text fault end is why = subst (IsUnstated text) (sym is) (told text fault why)

-- a text that states no notes is the whole input
ends_unread : (end : NotesEnd) (input : List ℕ) → length input ≤ most_bytes → IsUnstated input end → EndsUnread end input []
ends_unread ends.Done input within why = absurd why
ends_unread ends.InputFault input within why = absurd why
ends_unread ends.OutputFault input within why = absurd why
ends_unread ends.TooLong input within why = absurd why
ends_unread (ends.Refused fault) input within why = ((refl, within), why)
ends_unread ends.NoMemory input within why = tt

pub unread_text : (end : NotesEnd) (l0 l : Option (List ℕ)) (text : List ℕ) → IsWhole l0 text l → length text ≤ most_bytes → IsUnstated text end → IsUnread l0 end l
unread_text end None l text whole within why = tt
unread_text end (Some input) None text whole within why = absurd whole
unread_text end (Some input) (Some left) text whole within why =
    let long : length input ≤ most_bytes = subst (λ (t : List ℕ). length t ≤ most_bytes) (sym whole.0) within in
    subst (λ (l : List ℕ). EndsUnread end input l) (sym whole.1) (ends_unread end input long (subst (λ (t : List ℕ). IsUnstated t end) (sym whole.0) why))

-- and so is one that states notes
pub read_text : (figures : Figures) (l0 l : Option (List ℕ)) (text : List ℕ) → IsWhole l0 text l → length text ≤ most_bytes → IsStatedAs text figures → IsReadAs l0 figures l
read_text figures None l text whole within is = tt
read_text figures (Some input) None text whole within is = absurd whole
read_text figures (Some input) (Some left) text whole within is =
    (subst (λ (t : List ℕ). IsStatedAs t figures) (sym whole.0) is, (whole.1, subst (λ (t : List ℕ). length t ≤ most_bytes) (sym whole.0) within))

-- an input that was not read whole
not_read : (error : NotRead) (l0 l : Option (List ℕ)) → IsTakenWithin (most_bytes + 1) l0 l → (error ≡ unread.TooLong → IfSome l0 (λ input. most_bytes < length input))
    → IsUnread l0 (end_unread error) l
not_read error None l taken long = tt
not_read error (Some input) None taken long = absurd taken
not_read unread.Failed (Some input) (Some left) taken long = tt
not_read unread.TooLong (Some input) (Some left) taken long = long refl
not_read unread.NoMemory (Some input) (Some left) taken long = tt

pub unread_input : (error : NotRead) (end : NotesEnd) (l0 l : Option (List ℕ)) → end ≡ end_unread error → IsTakenWithin (most_bytes + 1) l0 l
    → (error ≡ unread.TooLong → IfSome l0 (λ input. most_bytes < length input)) → IsUnread l0 end l
unread_input error end l0 l is taken long = subst (λ (e : NotesEnd). IsUnread l0 e l) (sym is) (not_read error l0 l taken long)
