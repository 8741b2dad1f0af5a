-- How a run ends, and what was written by then.
use Rattle.std.specs.Prelude.{◌≡◌, ◌≢◌, ◌⊎◌, ◌<◌, ⊤, ℕ, true, false, List, [], length, Option, IfSome}
use Rattle.devices.specs.Sinks.{AreWritten}
use Rattle.logger_files.specs.Bringing.{IsBrought, IsUnread}
use Rattle.logger_files.specs.declared.bringing.Brought.{Brought}
use Rattle.logger_files.specs.declared.profiles.Profile.{Profile}
use Rattle.logger_files.specs.declared.reasons.FileFault.{FileFault}
use Rattle.logger_files.specs.declared.reasons.FileFault.TheVariants as refused
use Rattle.whole_inputs.specs.declared.inputs.NotRead.{NotRead}
use Rattle.whole_inputs.specs.declared.inputs.NotRead.TheVariants as unread
use Rattle.bring.specs.declared.runs.RunEnd.{RunEnd}
use Rattle.bring.specs.declared.runs.RunEnd.TheVariants.{AllTaken, SomeLeft, InputFault, OutputFault, TooLong, Refused, NoMemory}
use Rattle.bring.specs.declared.runs.TheConstants.{MOST_BYTES}

-- the requests that are made of an input and the list of its rows that are not taken, each on a sink
pub record AreBroughtOn (profile : Profile) (input : List ℕ) (brought : Brought) (sink sink_after list list_after : Option (List ℕ)) : Type 0 where
  pub made : IsBrought profile input brought
  pub requests : AreWritten sink brought.requests sink_after true
  pub listed : AreWritten list brought.left list_after true

-- the sink took a front of the requests, and the list stayed as it was; or the sink took them all, and the list only a front of its lines
abbrev pub AreCutOff : Brought → Option (List ℕ) → Option (List ℕ) → Option (List ℕ) → Option (List ℕ) → Type 0
AreCutOff brought sink sink_after list list_after =
    (AreWritten sink brought.requests sink_after false × (list_after ≡ list))
    ⊎ (AreWritten sink brought.requests sink_after true × AreWritten list brought.left list_after false)

-- what was written at each end that tells it, of an input that was read whole
abbrev pub EndsBy : RunEnd → Profile → List ℕ → Option (List ℕ) → Option (List ℕ) → Option (List ℕ) → Option (List ℕ) → Type 0
EndsBy AllTaken profile input sink sink_after list list_after =
    (brought : Brought) × (brought.left ≡ []) × AreBroughtOn profile input brought sink sink_after list list_after
EndsBy SomeLeft profile input sink sink_after list list_after =
    (brought : Brought) × (brought.left ≢ []) × AreBroughtOn profile input brought sink sink_after list list_after
EndsBy InputFault profile input sink sink_after list list_after = ⊤
EndsBy OutputFault profile input sink sink_after list list_after =
    (brought : Brought) × IsBrought profile input brought × AreCutOff brought sink sink_after list list_after
EndsBy TooLong profile input sink sink_after list list_after = MOST_BYTES < length input
EndsBy (Refused fault) profile input sink sink_after list list_after = IsUnread profile input fault
EndsBy NoMemory profile input sink sink_after list list_after = ⊤

-- the same of a source that tells its bytes
abbrev pub Ends : RunEnd → Profile → Option (List ℕ) → Option (List ℕ) → Option (List ℕ) → Option (List ℕ) → Option (List ℕ) → Type 0
Ends end profile source sink sink_after list list_after = IfSome source (λ input. EndsBy end profile input sink sink_after list list_after)

-- nothing was written
abbrev pub IsSilent : RunEnd → Type 0
IsSilent AllTaken = ⊥
IsSilent SomeLeft = ⊥
IsSilent InputFault = ⊤
IsSilent OutputFault = ⊥
IsSilent TooLong = ⊤
IsSilent (Refused fault) = ⊤
IsSilent NoMemory = ⊤

-- how a run ends where its input is not read, or makes no requests
abbrev pub end_unread : NotRead → RunEnd
end_unread unread.Failed = InputFault
end_unread unread.TooLong = TooLong
end_unread unread.NoMemory = NoMemory

abbrev pub end_refused : FileFault → RunEnd
end_refused refused.NoNames = Refused refused.NoNames
end_refused refused.NoTimes = Refused refused.NoTimes
end_refused refused.NoValues = Refused refused.NoValues
end_refused refused.NoMemory = NoMemory

-- why there is nothing to write
abbrev pub UnreadBy : RunEnd → Profile → List ℕ → Type 0
UnreadBy AllTaken profile input = ⊥
UnreadBy SomeLeft profile input = ⊥
UnreadBy InputFault profile input = ⊤
UnreadBy OutputFault profile input = ⊥
UnreadBy TooLong profile input = MOST_BYTES < length input
UnreadBy (Refused fault) profile input = IsUnread profile input fault
UnreadBy NoMemory profile input = ⊤

abbrev pub IsEndUnread : Profile → RunEnd → Option (List ℕ) → Type 0
IsEndUnread profile end source = IfSome source (UnreadBy end profile)

-- what was written of requests and a list
abbrev pub IsWrittenAs : RunEnd → Brought → Option (List ℕ) → Option (List ℕ) → Option (List ℕ) → Option (List ℕ) → Type 0
IsWrittenAs AllTaken brought sink sink_after list list_after =
    (brought.left ≡ []) × AreWritten sink brought.requests sink_after true × AreWritten list brought.left list_after true
IsWrittenAs SomeLeft brought sink sink_after list list_after =
    (brought.left ≢ []) × AreWritten sink brought.requests sink_after true × AreWritten list brought.left list_after true
IsWrittenAs InputFault brought sink sink_after list list_after = ⊥
IsWrittenAs OutputFault brought sink sink_after list list_after = AreCutOff brought sink sink_after list list_after
IsWrittenAs TooLong brought sink sink_after list list_after = ⊥
IsWrittenAs (Refused fault) brought sink sink_after list list_after = ⊥
IsWrittenAs NoMemory brought sink sink_after list list_after = ⊥
