-- How a run ends, and what was written by then.
use Rattle.std.specs.Prelude.{◌≡◌, ◌⊎◌, ◌<◌, ⊤, ℕ, true, false, List, [], length, Option, IfSome}
use Rattle.std.specs.Str.{IsUtf8}
use Rattle.std.specs.Str.Lines.{lines}
use Rattle.devices.specs.Sinks.{AreWritten}
use Rattle.whole_inputs.specs.declared.inputs.NotRead.{NotRead}
use Rattle.whole_inputs.specs.declared.inputs.NotRead.TheVariants as unread
use Rattle.draw.specs.Frames.{IsNoSpan}
use Rattle.draw.specs.Hydrographs.{IsDrawn}
use Rattle.draw.specs.Spreads.{time_span}
use Rattle.draw.specs.Tables.{IsFaultOf, IsTableOf}
use Rattle.draw.specs.declared.rows.Why.{Why}
use Rattle.draw.specs.declared.rows.Why.TheVariants as whys
use Rattle.draw.specs.declared.runs.RunEnd.{RunEnd}
use Rattle.draw.specs.declared.runs.RunEnd.TheVariants.{Drawn, InputFault, OutputFault, TooLong, NoText, Refused, Empty, NoMemory}
use Rattle.draw.specs.declared.runs.TheConstants.{MOST_BYTES}
use Rattle.draw.specs.declared.tables.RowFault.{RowFault}
use Rattle.draw.specs.declared.tables.Table.{Table}

-- the picture of a table, and none: its rows have no two instants
abbrev pub IsPicture : Table → List ℕ → Type 0
IsPicture table picture = IsDrawn table [] picture

abbrev pub IsNoPicture : Table → RunEnd → Type 0
IsNoPicture table end =
    (end ≡ NoMemory) ⊎ ((end ≡ Empty) × IsNoSpan (time_span table.station.zone table.rows.items))

-- the picture of an input that is a table
abbrev pub IsPictureOf : List ℕ → List ℕ → Type 0
IsPictureOf input picture = (table : Table) × IsTableOf (lines input) table × IsPicture table picture

-- why there is no picture of an input
abbrev pub IsEmptyOf : List ℕ → Type 0
IsEmptyOf input = (table : Table) × IsTableOf (lines input) table × IsNoSpan (time_span table.station.zone table.rows.items)

abbrev pub IsUndrawn : List ℕ → RunEnd → Type 0
IsUndrawn input Drawn = ⊥
IsUndrawn input InputFault = ⊥
IsUndrawn input OutputFault = ⊥
IsUndrawn input TooLong = ⊥
IsUndrawn input NoText = ¬ (IsUtf8 input)
IsUndrawn input (Refused fault) = IsFaultOf (lines input) fault
IsUndrawn input Empty = IsEmptyOf input
IsUndrawn input NoMemory = ⊤

-- how a run ends where its input is not read, or has a fault
abbrev pub end_unread : NotRead → RunEnd
end_unread unread.Failed = InputFault
end_unread unread.TooLong = TooLong
end_unread unread.NoMemory = NoMemory

abbrev pub end_of : Why → RowFault → RunEnd
end_of whys.NoMemory fault = NoMemory
end_of why fault = Refused fault

abbrev pub end_refused : RowFault → RunEnd
end_refused fault = end_of fault.why fault

-- nothing was written
abbrev pub IsSilent : RunEnd → Type 0
IsSilent Drawn = ⊥
IsSilent OutputFault = ⊥
IsSilent end = ⊤

-- why there is nothing to write, of a source that tells its bytes
abbrev pub UnreadBy : RunEnd → List ℕ → Type 0
UnreadBy InputFault input = ⊤
UnreadBy TooLong input = MOST_BYTES < length input
UnreadBy end input = IsUndrawn input end

abbrev pub IsEndUnread : RunEnd → Option (List ℕ) → Type 0
IsEndUnread end source = IfSome source (UnreadBy end)

-- what was written of a picture
abbrev pub IsWrittenAs : RunEnd → List ℕ → Option (List ℕ) → Option (List ℕ) → Type 0
IsWrittenAs Drawn picture sink sink_after = AreWritten sink picture sink_after true
IsWrittenAs OutputFault picture sink sink_after = AreWritten sink picture sink_after false
IsWrittenAs end picture sink sink_after = ⊥

-- what was written at each end that tells it, of an input that was read whole
abbrev pub EndsBy : RunEnd → List ℕ → Option (List ℕ) → Option (List ℕ) → Type 0
EndsBy Drawn input sink sink_after = (picture : List ℕ) × IsPictureOf input picture × AreWritten sink picture sink_after true
EndsBy OutputFault input sink sink_after = (picture : List ℕ) × IsPictureOf input picture × AreWritten sink picture sink_after false
EndsBy end input sink sink_after = UnreadBy end input

abbrev pub Ends : RunEnd → Option (List ℕ) → Option (List ℕ) → Option (List ℕ) → Type 0
Ends end source sink sink_after = IfSome source (λ input. EndsBy end input sink sink_after)
