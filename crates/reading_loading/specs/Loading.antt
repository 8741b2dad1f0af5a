-- How the loading of the readings of a text ends.
use Rattle.std.specs.Prelude.{◌≡◌, ◌⊎◌, ℕ, ◌+◌, ◌<◌, ◌≤◌, Bool, true, false, List, [], ◌++◌, length, Option, IfSome, IsSomeAnd, ⊤}
use Rattle.std.specs.List.{concat}
use Rattle.desk.specs.Endings.{StopsWithin}
use Rattle.devices.specs.Faults.{Rose}
use Rattle.devices.specs.Sinks.{AreWritten}
use Rattle.edits.specs.declared.content.Edit.{Edit}
use Rattle.fixed_units.specs.declared.readings.Reading.{Reading}
use Rattle.history.specs.Events.{History}
use Rattle.rdb_records.specs.Units.{IsRefused, IsStated}
use Rattle.rdb_records.specs.declared.faults.UnitFault.{UnitFault}
use Rattle.rdb_records.specs.declared.faults.UnitFault.TheVariants as unstated
use Rattle.rdb_records.specs.declared.units.UnitList.{UnitList}
use Rattle.reading_loading.specs.Lines.{count_line, end_of}
use Rattle.reading_loading.specs.Puts.{AreFirstPuts, ArePuts, Order}
use Rattle.reading_loading.specs.declared.limits.TheConstants.{MOST_BYTES}
use Rattle.reading_loading.specs.declared.loading.ReadingsEnd.{ReadingsEnd}
use Rattle.reading_loading.specs.declared.loading.ReadingsEnd.TheVariants.{Done, InputFault, OutputFault, TooLong, Refused, NoMemory}
use Rattle.told_edits.specs.Again.{AreToldAsBefore, TellNumbers}
use Rattle.told_edits.specs.Lines.{AreSent}
use Rattle.told_edits.specs.Telling.{AreTold}
use Rattle.whole_inputs.specs.Inputs.{IsTakenAtMost}
use Rattle.whole_inputs.specs.declared.inputs.NotRead.{NotRead}
use Rattle.whole_inputs.specs.declared.inputs.NotRead.TheVariants as unread

-- The office was asked the edits that put these readings, and the line of each was written; or the sink failed within the line of one,
-- and the office was asked none of those behind it.
abbrev pub ArePutAndTold : Bool → Order → List Reading → History → History → List ℕ → Type 0
ArePutAndTold true order readings h after written = (edits : List Edit) × ArePuts order readings edits × AreTold end_of true h edits after written
ArePutAndTold false order readings h after written = (edits : List Edit) × AreFirstPuts order readings edits × AreTold end_of false h edits after written

-- The same with the line that counts them behind those of the edits; the sink may have failed within it.
abbrev pub AreUnitsTold : Bool → Order → UnitList → History → History → List ℕ → Type 0
AreUnitsTold true order units h after written =
    (lines : List ℕ) × ArePutAndTold true order units.readings h after lines × (written ≡ lines ++ count_line units)
AreUnitsTold false order units h after written =
    ArePutAndTold false order units.readings h after written
    ⊎ ((lines : List ℕ) × ArePutAndTold true order units.readings h after lines × StopsWithin lines (count_line units) written)

-- no edit was asked, and nothing was written
abbrev pub NothingDone : History → History → List ℕ → Type 0
NothingDone h after written = (after ≡ h) × (written ≡ [])

-- all of the input was taken, and it is no longer than a text of readings may be
abbrev pub IsAllOf : List ℕ → List ℕ → Type 0
IsAllOf input left = (left ≡ []) × (length input ≤ MOST_BYTES)

-- the whole input states these readings
abbrev pub StatesUnits : Order → List ℕ → List ℕ → UnitList → Type 0
StatesUnits order input left units = IsStated order.site order.column input units × IsAllOf input left

-- why the text was not read, or states no readings; ends behind which edits were asked have no such reason
abbrev pub UnstatedBy : Order → ReadingsEnd → List ℕ → List ℕ → Type 0
UnstatedBy order Done input left = ⊥
UnstatedBy order InputFault input left = ⊤
UnstatedBy order OutputFault input left = ⊥
UnstatedBy order TooLong input left = MOST_BYTES < length input
UnstatedBy order (Refused fault) input left = IsRefused order.site order.column input fault × IsAllOf input left
UnstatedBy order NoMemory input left = ⊤

-- what was written and has happened at each end, by the input
abbrev pub LoadsBy : ReadingsEnd → Order → History → List ℕ → List ℕ → History → List ℕ → Type 0
LoadsBy Done order h input left after written = (units : UnitList) × StatesUnits order input left units × AreUnitsTold true order units h after written
LoadsBy OutputFault order h input left after written = (units : UnitList) × StatesUnits order input left units × AreUnitsTold false order units h after written
LoadsBy end order h input left after written = UnstatedBy order end input left × NothingDone h after written

-- The readings of a text were loaded, from one history to another. No more of the input was taken than tells whether it is too long.
pub record Loads (order : Order) (h after : History) (end : ReadingsEnd) (input left written : List ℕ) : Type 0 where
  pub ends : LoadsBy end order h input left after written
  pub taken : IsTakenAtMost (MOST_BYTES + 1) input left

-- the office was asked nothing
abbrev pub IsUnasked : ReadingsEnd → Type 0
IsUnasked Done = ⊥
IsUnasked InputFault = ⊤
IsUnasked OutputFault = ⊥
IsUnasked TooLong = ⊤
IsUnasked (Refused fault) = ⊤
IsUnasked NoMemory = ⊤

-- The same, where the source tells its bytes. What was written is at the end of a sink that tells its own; one that does not may have any
-- such text, and the office was asked these edits all the same. Where it was asked none the history stays, whatever the two tell.
pub record IsLoaded (order : Order) (h after : History) (end : ReadingsEnd)
    (left_before left_after written_before written_after : Option (List ℕ)) : Type 0 where
  pub loads : IfSome left_before (λ input. IsSomeAnd left_after (λ left.
      (written : List ℕ) × Loads order h after end input left written × AreWritten written_before written written_after true))
  pub unasked : IsUnasked end → after ≡ h

-- all of the input was taken, and states these readings
abbrev pub IsReadAs : Order → Option (List ℕ) → UnitList → Option (List ℕ) → Type 0
IsReadAs order before units after = IfSome before (λ input. IsSomeAnd after (λ left. StatesUnits order input left units))

-- the text was not read, or states no readings, for this reason
abbrev pub IsUnstated : Order → ReadingsEnd → Option (List ℕ) → Option (List ℕ) → Type 0
IsUnstated order end before after = IfSome before (λ input. IsSomeAnd after (λ left. UnstatedBy order end input left))

-- how the loading ends of an input that was not read, and of a text that states no readings
abbrev pub end_unread : NotRead → ReadingsEnd
end_unread unread.Failed = InputFault
end_unread unread.TooLong = TooLong
end_unread unread.NoMemory = NoMemory

abbrev pub end_unstated : UnitFault → ReadingsEnd
end_unstated unstated.NoMemory = NoMemory
end_unstated fault = Refused fault

-- a fault of the source or of the sink is told only where the count of that object rose
abbrev pub LoadingCause : ReadingsEnd → ℕ → ℕ → ℕ → ℕ → Type 0
LoadingCause Done source_before source_now sink_before sink_now = ⊤
LoadingCause InputFault source_before source_now sink_before sink_now = Rose source_before source_now
LoadingCause OutputFault source_before source_now sink_before sink_now = Rose sink_before sink_now
LoadingCause TooLong source_before source_now sink_before sink_now = ⊤
LoadingCause (Refused fault) source_before source_now sink_before sink_now = ⊤
LoadingCause NoMemory source_before source_now sink_before sink_now = ⊤

-- A text of readings was loaded, and again behind more edits: where a line told a number at first it tells it again, or that there was no memory
-- to look, and where all of them told one, nothing happened.
pub record IsLoadedAgain (units : UnitList) (edits : List Edit) (h after later last : History) (written again : List ℕ) : Type 0 where
  pub lines : List (List ℕ)
  pub lines_again : List (List ℕ)
  pub sent : AreSent end_of h edits lines after
  pub sent_again : AreSent end_of later edits lines_again last
  pub first : written ≡ concat lines ++ count_line units
  pub second : again ≡ concat lines_again ++ count_line units
  pub told : AreToldAsBefore end_of edits lines lines_again
  pub nothing : TellNumbers end_of edits lines → last ≡ later
