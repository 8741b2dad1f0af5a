-- How the loading of a document of stations ends.
use Rattle.std.specs.Prelude.{◌≡◌, ℕ, ◌+◌, true, false, List, [], Option, IfSome, IsSomeAnd, ⊤}
use Rattle.devices.specs.Faults.{Rose}
use Rattle.devices.specs.Sinks.{AreWritten}
use Rattle.edits.specs.declared.content.Edit.{Edit}
use Rattle.history.specs.Events.{History}
use Rattle.station_documents.specs.Documents.{StatesStations, most_bytes}
use Rattle.station_documents.specs.declared.faults.DocumentFault.{DocumentFault}
use Rattle.station_documents.specs.declared.faults.DocumentFault.TheVariants as unstated
use Rattle.station_loading.specs.Lines.{end_of}
use Rattle.station_loading.specs.declared.loading.LoadingEnd.{LoadingEnd}
use Rattle.station_loading.specs.declared.loading.LoadingEnd.TheVariants.{Done, InputFault, OutputFault, NotADocument, NoMemory}
use Rattle.told_edits.specs.Telling.{AreTold}
use Rattle.whole_inputs.specs.Inputs.{IsTakenAtMost}
use Rattle.whole_inputs.specs.declared.inputs.NotRead.{NotRead}
use Rattle.whole_inputs.specs.declared.inputs.NotRead.TheVariants as unread

-- no edit was asked, and nothing was written
abbrev pub NothingDone : History → History → List ℕ → Type 0
NothingDone h after written = (after ≡ h) × (written ≡ [])

-- what was written and has happened at each end, by the input
abbrev pub LoadsBy : LoadingEnd → History → List ℕ → List ℕ → History → List ℕ → Type 0
LoadsBy Done h input left after written = (left ≡ []) × ((edits : List Edit) × StatesStations input edits × AreTold end_of true h edits after written)
LoadsBy OutputFault h input left after written = (left ≡ []) × ((edits : List Edit) × StatesStations input edits × AreTold end_of false h edits after written)
LoadsBy NotADocument h input left after written = ((edits : List Edit) → ¬ StatesStations input edits) × NothingDone h after written
LoadsBy InputFault h input left after written = NothingDone h after written
LoadsBy NoMemory h input left after written = NothingDone h after written

-- A document of stations was loaded, from one history to another. No more of the input was taken than tells whether it is too long for
-- a document.
pub record Loads (h after : History) (end : LoadingEnd) (input left written : List ℕ) : Type 0 where
  pub ends : LoadsBy end h input left after written
  pub taken : IsTakenAtMost (most_bytes + 1) input left

-- the office was asked nothing
abbrev pub IsUnasked : LoadingEnd → Type 0
IsUnasked Done = ⊥
IsUnasked InputFault = ⊤
IsUnasked OutputFault = ⊥
IsUnasked NotADocument = ⊤
IsUnasked NoMemory = ⊤

-- The same, where the source tells its bytes. What was written is at the end of a sink that tells its own; one that does not may have any
-- such text, and the office was asked these edits all the same. Where it was asked none the history stays, whatever the two tell.
pub record IsLoaded (h after : History) (end : LoadingEnd) (left_before left_after written_before written_after : Option (List ℕ)) : Type 0 where
  pub loads : IfSome left_before (λ input. IsSomeAnd left_after (λ left.
      (written : List ℕ) × Loads h after end input left written × AreWritten written_before written written_after true))
  pub unasked : IsUnasked end → after ≡ h

-- all of the input was taken, and states these edits
abbrev pub IsReadAs : Option (List ℕ) → List Edit → Option (List ℕ) → Type 0
IsReadAs before edits after = IfSome before (λ input. IsSomeAnd after (λ left. StatesStations input edits × (left ≡ [])))

-- it states none
abbrev pub StatesNone : Option (List ℕ) → Type 0
StatesNone before = IfSome before (λ input. (edits : List Edit) → ¬ StatesStations input edits)

-- how the loading ends of an input that was not read, and of a text that states no stations
abbrev pub end_unread : NotRead → LoadingEnd
end_unread unread.Failed = InputFault
end_unread unread.TooLong = NotADocument
end_unread unread.NoMemory = NoMemory

abbrev pub end_unstated : DocumentFault → LoadingEnd
end_unstated unstated.NoDocument = NotADocument
end_unstated unstated.NoMemory = NoMemory

-- a fault of the source or of the sink is told only where the count of that object rose
abbrev pub LoadingCause : LoadingEnd → ℕ → ℕ → ℕ → ℕ → Type 0
LoadingCause Done source_before source_now sink_before sink_now = ⊤
LoadingCause InputFault source_before source_now sink_before sink_now = Rose source_before source_now
LoadingCause OutputFault source_before source_now sink_before sink_now = Rose sink_before sink_now
LoadingCause NotADocument source_before source_now sink_before sink_now = ⊤
LoadingCause NoMemory source_before source_now sink_before sink_now = ⊤
