-- What the end of a run of `notes` says of its status.
use Rattle.std.proofs.Common.{◌≡◌, ◌⊎◌, ℕ, List, Option, Some, None, IsSomeAnd, Result, refl, inl, inr, arith}
use Rattle.command_words.specs.Words.{NotesAsked}
use Rattle.devices.specs.Faults.{Rose}
use Rattle.devices.specs.declared.disks.Disk.{Ghosts}
use Rattle.history.specs.Events.{History}
use Rattle.journal.specs.declared.opening.OpenFault.{OpenFault}
use Rattle.midsection.specs.declared.faults.NotesFault.{NotesFault}
use Rattle.note_loading.specs.Endings.{IsUnasked, LoadingCause}
use Rattle.note_loading.specs.Loading.{IsLoaded}
use Rattle.note_loading.specs.declared.endings.NotesEnd.{NotesEnd}
use Rattle.note_loading.specs.declared.endings.NotesEnd.TheVariants as ends
use Rattle.commands.proofs.Lawful.{HasCause, IsEarly, IsLawful, innocent, not_early}
use Rattle.commands.proofs.LoadingLemmas.{input_rose, lawful_loading, output_rose, unwritten_unread}
use Rattle.commands.specs.Loading.{CausedBetween, LoadsNotes, NotesLoaded, notes_ending, visit_of}
use Rattle.commands.specs.Opening.{ending_over}
use Rattle.commands.specs.Ready.{CabinetIsWell, HasSound, IsDone, IsNotes, StreamsAreWell}
use Rattle.commands.specs.Statuses.{status_of}
use Rattle.commands.specs.Worlds.{Stream, Told, World}

causes : {D : Type 0} (end : NotesEnd) (before after : Told D)
    → CausedBetween LoadingCause before.input after.input before.output after.output end → HasCause (status_of (notes_ending end)) before after
causes ends.Done before after cause = innocent 0 before after refl
causes ends.InputFault before after cause = input_rose before after cause
causes ends.OutputFault before after cause = output_rose before after cause
causes ends.TooLong before after cause = innocent 14 before after refl
causes (ends.Refused fault) before after cause = innocent 14 before after refl
causes ends.NoMemory before after cause = innocent 6 before after refl

begun : (end : NotesEnd) → IsEarly (status_of (notes_ending end)) → ⊥
begun ends.Done is = not_early 0 refl is
begun ends.InputFault is = not_early 2 refl is
begun ends.OutputFault is = not_early 3 refl is
begun ends.TooLong is = not_early 14 refl is
begun (ends.Refused fault) is = not_early 14 refl is
begun ends.NoMemory is = not_early 6 refl is

memory : (end : NotesEnd) → status_of (notes_ending end) ≡ 6 → IsUnasked end
memory ends.Done is = absurd (cc is)
memory ends.InputFault is = tt
memory ends.OutputFault is = absurd (cc is)
memory ends.TooLong is = tt
memory (ends.Refused fault) is = tt
memory ends.NoMemory is = tt

unread : (end : NotesEnd) → (status_of (notes_ending end) ≡ 2) ⊎ (status_of (notes_ending end) ≡ 14) → IsUnasked end
unread ends.Done (inl is) = absurd (cc is)
unread ends.Done (inr is) = absurd (cc is)
unread ends.InputFault is = tt
unread ends.OutputFault (inl is) = absurd (cc is)
unread ends.OutputFault (inr is) = absurd (cc is)
unread ends.TooLong is = tt
unread (ends.Refused fault) is = tt
unread ends.NoMemory is = tt

-- what is not refused is not
not_refused : (asked : NotesAsked) (fault : NotesFault) (h last : History) (l0 l w0 w : Option (List ℕ)) → IsLoaded (visit_of asked) h last (ends.Refused fault) l0 l w0 w
    → IsSomeAnd l0 (IsNotes) → ⊥
not_refused asked fault h last None l w0 w loaded whole = whole
not_refused asked fault h last (Some input) None w0 w loaded whole = loaded.loads
not_refused asked fault h last (Some input) (Some left) w0 w loaded whole = whole.unrefused fault loaded.loads.1.ends.1

not_too_long : (asked : NotesAsked) (h last : History) (l0 l w0 w : Option (List ℕ)) → IsLoaded (visit_of asked) h last ends.TooLong l0 l w0 w
    → IsSomeAnd l0 (IsNotes) → ⊥
not_too_long asked h last None l w0 w loaded whole = whole
not_too_long asked h last (Some input) None w0 w loaded whole = loaded.loads
not_too_long asked h last (Some input) (Some left) w0 w loaded whole = omega (arith, loaded.loads.1.ends.0, whole.short)

stated : (asked : NotesAsked) (end : NotesEnd) (input left output written : Stream) (h last : History) → NotesLoaded asked input left output written end h last
    → CausedBetween LoadingCause input left output written end → IsSomeAnd input.bytes (IsNotes)
    → ¬ (Rose input.faults left.faults) → ¬ (Rose output.faults written.faults) → IsDone (status_of (notes_ending end))
stated asked ends.Done input left output written h last loaded cause whole calm still = inl refl
stated asked ends.InputFault input left output written h last loaded cause whole calm still = absurd (calm cause)
stated asked ends.OutputFault input left output written h last loaded cause whole calm still = absurd (still cause)
stated asked ends.TooLong input left output written h last loaded cause whole calm still =
    absurd (not_too_long asked h last input.bytes left.bytes output.bytes written.bytes loaded whole)
stated asked (ends.Refused fault) input left output written h last loaded cause whole calm still =
    absurd (not_refused asked fault h last input.bytes left.bytes output.bytes written.bytes loaded whole)
stated asked ends.NoMemory input left output written h last loaded cause whole calm still = inr refl

module _ {S K E C L P D : Type 0} (g : Ghosts D) (tell : World S K E C L P → Told D) (asked : NotesAsked) where
  pub notes_lawful : IsLawful tell (ending_over notes_ending)
      (λ found. HasSound g asked.journal found.cabinet.places × IsSomeAnd found.input.bytes (IsNotes))
      (λ before after. StreamsAreWell before after × CabinetIsWell before after)
      (λ end before after. LoadsNotes g tell asked end before after)
  notes_lawful =
      lawful_loading g tell asked.journal notes_ending (NotesLoaded asked) LoadingCause IsUnasked (IsNotes) causes begun memory (stated asked)

  pub unwritten_at_notes : (end : Result NotesEnd OpenFault) (before after : World S K E C L P) → LoadsNotes g tell asked end before after
      → (status_of (ending_over notes_ending end) ≡ 2) ⊎ (status_of (ending_over notes_ending end) ≡ 14) → after.output ≡ before.output
  unwritten_at_notes = unwritten_unread g tell asked.journal notes_ending (NotesLoaded asked) LoadingCause IsUnasked (IsNotes) 14 unread
