-- How the loading of notes ended, by what was read and told.
use Rattle.std.proofs.Common.{◌≡◌, refl, sym, subst, ℕ, ◌+◌, List, [], Bool, true, false, Option, Some, None, IfSome, IsSomeAnd, ℤ, append-nil}
use Rattle.devices.specs.Sinks.{AreWritten}
use Rattle.history.specs.Events.{History}
use Rattle.midsection.specs.Midsection.{total}
use Rattle.note_loading.specs.Endings.{IsUnasked}
use Rattle.note_loading.specs.Figures.{figures_text}
use Rattle.note_loading.specs.Loading.{AreTold, EndsUnread, IsLoaded, IsReadAs, IsStatedAs, IsUnread, Loads, LoadsBy, Tells, TellsNotes, most_bytes}
use Rattle.note_loading.specs.declared.endings.NotesEnd.{NotesEnd}
use Rattle.note_loading.specs.declared.endings.NotesEnd.TheVariants as ends
use Rattle.note_loading.specs.declared.loading.Figures.{Figures}
use Rattle.note_loading.specs.declared.visits.Visit.{Visit}
use Rattle.whole_inputs.specs.Inputs.{IsTakenWithin}

-- nothing was written
nothing_written : (w : Option (List ℕ)) → AreWritten w [] w true
nothing_written None = tt
nothing_written (Some bytes) = sym (append-nil bytes)

-- nothing was asked
asked_nothing : (v : Visit) (h : History) (end : NotesEnd) (input left : List ℕ) → EndsUnread end input left → LoadsBy end v h input left h []
asked_nothing v h ends.Done input left unread = absurd unread
asked_nothing v h ends.InputFault input left unread = (refl, refl)
asked_nothing v h ends.OutputFault input left unread = absurd unread
asked_nothing v h ends.TooLong input left unread = (unread, (refl, refl))
asked_nothing v h (ends.Refused fault) input left unread = (unread.0, unread.1, (refl, refl))
asked_nothing v h ends.NoMemory input left unread = (refl, refl)

loads_nothing : (v : Visit) (h : History) (end : NotesEnd) (l0 l w : Option (List ℕ)) → IsUnread l0 end l → IsTakenWithin (most_bytes + 1) l0 l
    → IfSome l0 (λ input. IsSomeAnd l (λ left. (written : List ℕ) × Loads v h h end input left written × AreWritten w written w true))
loads_nothing v h end None l w unread taken = tt
loads_nothing v h end (Some input) None w unread taken = absurd taken
loads_nothing v h end (Some input) (Some left) w unread taken =
    ([], record { ends = asked_nothing v h end input left unread; taken = taken }, nothing_written w)

pub loaded_nothing : (v : Visit) (h : History) (end : NotesEnd) (l0 l w : Option (List ℕ)) → IsUnread l0 end l → IsTakenWithin (most_bytes + 1) l0 l
    → IsLoaded v h h end l0 l w w
loaded_nothing v h end l0 l w unread taken = record { loads = loads_nothing v h end l0 l w unread taken; unasked = λ is. refl }

-- the notes that the input states were told
module _ (v : Visit) (h after : History) (figures : Figures) where
  notes_told : (done : Bool) (input written : List ℕ) → IsStatedAs input figures → Tells done v figures.total figures.text h after written → TellsNotes done v input h after written
  notes_told done input written is told = (
    is.verticals,
    is.stated,
    subst (λ (q : ℤ). Tells done v q (figures_text is.verticals) h after written) is.total_is
        (subst (λ (text : List ℕ). Tells done v figures.total text h after written) is.text_is told),
  )

  loads_told : (l0 l w0 w : Option (List ℕ)) → IsReadAs l0 figures l → IsTakenWithin (most_bytes + 1) l0 l → AreTold v figures h true after w0 w
      → IfSome l0 (λ input. IsSomeAnd l (λ left. (written : List ℕ) × Loads v h after ends.Done input left written × AreWritten w0 written w true))
  loads_told None l w0 w read taken told = tt
  loads_told (Some input) None w0 w read taken told = absurd taken
  loads_told (Some input) (Some left) w0 w read taken told =
      (told.0, record { ends = (read.1, notes_told true input told.0 read.0 told.1); taken = taken }, told.2)

  loads_cut : (l0 l w0 w : Option (List ℕ)) → IsReadAs l0 figures l → IsTakenWithin (most_bytes + 1) l0 l → AreTold v figures h false after w0 w
      → IfSome l0 (λ input. IsSomeAnd l (λ left. (written : List ℕ) × Loads v h after ends.OutputFault input left written × AreWritten w0 written w true))
  loads_cut None l w0 w read taken told = tt
  loads_cut (Some input) None w0 w read taken told = absurd taken
  loads_cut (Some input) (Some left) w0 w read taken told =
      (told.0, record { ends = (read.1, notes_told false input told.0 read.0 told.1); taken = taken }, told.2)

  pub loaded_told : (l0 l w0 w : Option (List ℕ)) → IsReadAs l0 figures l → IsTakenWithin (most_bytes + 1) l0 l → AreTold v figures h true after w0 w
      → IsLoaded v h after ends.Done l0 l w0 w
  loaded_told l0 l w0 w read taken told = record { loads = loads_told l0 l w0 w read taken told; unasked = λ is. absurd is }

  pub loaded_cut : (l0 l w0 w : Option (List ℕ)) → IsReadAs l0 figures l → IsTakenWithin (most_bytes + 1) l0 l → AreTold v figures h false after w0 w
      → IsLoaded v h after ends.OutputFault l0 l w0 w
  loaded_cut l0 l w0 w read taken told = record { loads = loads_cut l0 l w0 w read taken told; unasked = λ is. absurd is }
