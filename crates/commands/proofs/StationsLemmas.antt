-- What the end of a run of `stations` says of its status.
use Rattle.std.proofs.Common.{◌≡◌, ◌⊎◌, ℕ, List, Option, Some, None, IsSomeAnd, Result, refl, inl, inr}
use Rattle.devices.specs.Faults.{Rose}
use Rattle.devices.specs.declared.disks.Disk.{Ghosts}
use Rattle.history.specs.Events.{History}
use Rattle.journal.specs.declared.opening.OpenFault.{OpenFault}
use Rattle.station_loading.specs.Loading.{IsLoaded, IsUnasked, LoadingCause}
use Rattle.station_loading.specs.declared.loading.LoadingEnd.{LoadingEnd}
use Rattle.station_loading.specs.declared.loading.LoadingEnd.TheVariants as loadings
use Rattle.commands.proofs.Lawful.{HasCause, IsEarly, IsLawful, innocent, not_early}
use Rattle.commands.proofs.LoadingLemmas.{input_rose, lawful_loading, output_rose, unwritten_unread}
use Rattle.commands.specs.Loading.{CausedBetween, LoadsStations, StationsLoaded, loading_ending}
use Rattle.commands.specs.Opening.{ending_over}
use Rattle.commands.specs.Ready.{CabinetIsWell, HasSound, IsDocument, IsDone, StreamsAreWell}
use Rattle.commands.specs.Statuses.{status_of}
use Rattle.commands.specs.Worlds.{Stream, Told, World}

causes : {D : Type 0} (end : LoadingEnd) (before after : Told D)
    → CausedBetween LoadingCause before.input after.input before.output after.output end → HasCause (status_of (loading_ending end)) before after
causes loadings.Done before after cause = innocent 0 before after refl
causes loadings.InputFault before after cause = input_rose before after cause
causes loadings.OutputFault before after cause = output_rose before after cause
causes loadings.NoMemory before after cause = innocent 6 before after refl
causes loadings.NotADocument before after cause = innocent 9 before after refl

begun : (end : LoadingEnd) → IsEarly (status_of (loading_ending end)) → ⊥
begun loadings.Done is = not_early 0 refl is
begun loadings.InputFault is = not_early 2 refl is
begun loadings.OutputFault is = not_early 3 refl is
begun loadings.NoMemory is = not_early 6 refl is
begun loadings.NotADocument is = not_early 9 refl is

memory : (end : LoadingEnd) → status_of (loading_ending end) ≡ 6 → IsUnasked end
memory loadings.Done is = absurd (cc is)
memory loadings.InputFault is = tt
memory loadings.OutputFault is = absurd (cc is)
memory loadings.NoMemory is = tt
memory loadings.NotADocument is = tt

unread : (end : LoadingEnd) → (status_of (loading_ending end) ≡ 2) ⊎ (status_of (loading_ending end) ≡ 9) → IsUnasked end
unread loadings.Done (inl is) = absurd (cc is)
unread loadings.Done (inr is) = absurd (cc is)
unread loadings.InputFault is = tt
unread loadings.OutputFault (inl is) = absurd (cc is)
unread loadings.OutputFault (inr is) = absurd (cc is)
unread loadings.NoMemory is = tt
unread loadings.NotADocument is = tt

-- no document is none
not_no_document : (h last : History) (l0 l w0 w : Option (List ℕ)) → IsLoaded h last loadings.NotADocument l0 l w0 w
    → IsSomeAnd l0 IsDocument → ⊥
not_no_document h last None l w0 w loaded stated = stated
not_no_document h last (Some input) None w0 w loaded stated = loaded.loads
not_no_document h last (Some input) (Some left) w0 w loaded stated = loaded.loads.1.ends.0 stated.0 stated.1

stated : (end : LoadingEnd) (input left output written : Stream) (h last : History) → StationsLoaded input left output written end h last
    → CausedBetween LoadingCause input left output written end → IsSomeAnd input.bytes IsDocument
    → ¬ (Rose input.faults left.faults) → ¬ (Rose output.faults written.faults) → IsDone (status_of (loading_ending end))
stated loadings.Done input left output written h last loaded cause document calm still = inl refl
stated loadings.InputFault input left output written h last loaded cause document calm still = absurd (calm cause)
stated loadings.OutputFault input left output written h last loaded cause document calm still = absurd (still cause)
stated loadings.NotADocument input left output written h last loaded cause document calm still =
    absurd (not_no_document h last input.bytes left.bytes output.bytes written.bytes loaded document)
stated loadings.NoMemory input left output written h last loaded cause document calm still = inr refl

module _ {S K E C L P D : Type 0} (g : Ghosts D) (tell : World S K E C L P → Told D) (name : List ℕ) where
  pub stations_lawful : IsLawful tell (ending_over loading_ending)
      (λ found. HasSound g name found.cabinet.places × IsSomeAnd found.input.bytes IsDocument)
      (λ before after. StreamsAreWell before after × CabinetIsWell before after)
      (λ end before after. LoadsStations g tell name end before after)
  stations_lawful = lawful_loading g tell name loading_ending StationsLoaded LoadingCause IsUnasked IsDocument causes begun memory stated

  pub unwritten_at_document : (end : Result LoadingEnd OpenFault) (before after : World S K E C L P) → LoadsStations g tell name end before after
      → (status_of (ending_over loading_ending end) ≡ 2) ⊎ (status_of (ending_over loading_ending end) ≡ 9) → after.output ≡ before.output
  unwritten_at_document = unwritten_unread g tell name loading_ending StationsLoaded LoadingCause IsUnasked IsDocument 9 unread
