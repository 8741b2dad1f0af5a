-- How the loading of measurement notes ends.
use Rattle.std.specs.Prelude.{ℕ, ⊤}
use Rattle.devices.specs.Faults.{Rose}
use Rattle.midsection.specs.declared.faults.NotesFault.{NotesFault}
use Rattle.midsection.specs.declared.faults.NotesFault.TheVariants as faults
use Rattle.note_loading.specs.declared.endings.NotesEnd.{NotesEnd}
use Rattle.note_loading.specs.declared.endings.NotesEnd.TheVariants as ends
use Rattle.whole_inputs.specs.declared.inputs.NotRead.{NotRead}
use Rattle.whole_inputs.specs.declared.inputs.NotRead.TheVariants as unread

-- of an input that was not read whole
abbrev pub end_unread : NotRead → NotesEnd
end_unread unread.Failed = ends.InputFault
end_unread unread.TooLong = ends.TooLong
end_unread unread.NoMemory = ends.NoMemory

-- of a text that is no notes, or for which there was no memory
abbrev pub end_refused : NotesFault → NotesEnd
end_refused faults.Header = ends.Refused faults.Header
end_refused (faults.Number record_number) = ends.Refused (faults.Number record_number)
end_refused (faults.Range record_number) = ends.Refused (faults.Range record_number)
end_refused (faults.Order record_number) = ends.Refused (faults.Order record_number)
end_refused (faults.Method record_number) = ends.Refused (faults.Method record_number)
end_refused faults.Count = ends.Refused faults.Count
end_refused faults.Total = ends.Refused faults.Total
end_refused faults.NoMemory = ends.NoMemory

-- the office was asked nothing
abbrev pub IsUnasked : NotesEnd → Type 0
IsUnasked ends.Done = ⊥
IsUnasked ends.InputFault = ⊤
IsUnasked ends.OutputFault = ⊥
IsUnasked ends.TooLong = ⊤
IsUnasked (ends.Refused fault) = ⊤
IsUnasked ends.NoMemory = ⊤

-- a fault of the source or of the sink is told only where the count of that object rose
abbrev pub LoadingCause : NotesEnd → ℕ → ℕ → ℕ → ℕ → Type 0
LoadingCause ends.Done source_before source_now sink_before sink_now = ⊤
LoadingCause ends.InputFault source_before source_now sink_before sink_now = Rose source_before source_now
LoadingCause ends.OutputFault source_before source_now sink_before sink_now = Rose sink_before sink_now
LoadingCause ends.TooLong source_before source_now sink_before sink_now = ⊤
LoadingCause (ends.Refused fault) source_before source_now sink_before sink_now = ⊤
LoadingCause ends.NoMemory source_before source_now sink_before sink_now = ⊤
