-- What the end of a run of `batch` says of its status.
use Rattle.std.proofs.Common.{◌≡◌, ◌≢◌, ◌⊎◌, ℕ, zero, suc, ◌+◌, ◌<◌, List, length, Option, Some, None, Ok, Err, IsSome, IsSomeAnd, Result, refl, ap, inl, inr, ⊎_elim, arith}
use Rattle.desk.specs.Sessions.{HasCause as SessionHasCause, IsHeardBetween}
use Rattle.desk.specs.declared.sessions.SessionEnd.{SessionEnd}
use Rattle.desk.specs.declared.sessions.SessionEnd.TheVariants as sessions
use Rattle.devices.specs.Faults.{Rose}
use Rattle.devices.specs.declared.disks.Disk.{Ghosts}
use Rattle.journal.specs.declared.opening.OpenFault.{OpenFault}
use Rattle.wire.specs.declared.messages.Message.{Message}
use Rattle.wire.specs.declared.limits.TheConstants.{STREAM_BYTES}
use Rattle.commands.proofs.Lawful.{HasCause, IsEarly, IsLawful, innocent, not_early}
use Rattle.commands.proofs.OpeningLemmas.{sound_opens, unopened_cause}
use Rattle.commands.specs.Opening.{IsNotOpenedUnder, LeadsTo, RunsOver, ending_over}
use Rattle.commands.specs.Ready.{CabinetIsWell, HasSound, IsDone, IsWellFormed, StreamsAreWell}
use Rattle.commands.specs.Beside.{ServedBesideWorkers, ends_told}
use Rattle.commands.specs.Batch.{IsUnserved, RepliesOver, ServesInput, SessionCause, session_ending}
use Rattle.commands.specs.Statuses.{status_of}
use Rattle.commands.specs.Worlds.{StreamsStay, Told, World}

-- a fault of a stream is that of its object
session_cause : {D : Type 0} (end : SessionEnd) (before after : Told D)
    → SessionCause before.input after.input before.output after.output end → HasCause (status_of (session_ending end)) before after
session_cause sessions.End before after cause = innocent 0 before after refl
session_cause sessions.InputFault before after cause = record {
  asked = λ is. cc is;
  input = λ is. cause;
  output = λ is. absurd (cc is);
  cabinet = λ is. absurd (cc is);
  doors = λ is. absurd (cc is);
}
session_cause sessions.OutputFault before after cause = record {
  asked = λ is. cc is;
  input = λ is. absurd (cc is);
  output = λ is. cause;
  cabinet = λ is. absurd (cc is);
  doors = λ is. absurd (cc is);
}
session_cause sessions.NoMemory before after cause = innocent 6 before after refl
session_cause (sessions.Malformed at) before after cause = innocent 9 before after refl
session_cause sessions.Long before after cause = innocent 10 before after refl

-- a session that was begun does not end early
session_early : (end : SessionEnd) → IsEarly (status_of (session_ending end)) → ⊥
session_early sessions.End is = not_early 0 refl is
session_early sessions.InputFault is = not_early 2 refl is
session_early sessions.OutputFault is = not_early 3 refl is
session_early sessions.NoMemory is = not_early 6 refl is
session_early (sessions.Malformed at) is = not_early 9 refl is
session_early sessions.Long is = not_early 10 refl is

-- nor is it without memory, unless it ended before the first request
session_memory : (end : SessionEnd) → status_of (session_ending end) ≡ 6 → IsUnserved (Ok end)
session_memory sessions.End is = absurd (cc is)
session_memory sessions.InputFault is = absurd (cc is)
session_memory sessions.OutputFault is = absurd (cc is)
session_memory sessions.NoMemory is = tt
session_memory (sessions.Malformed at) is = absurd (cc is)
session_memory sessions.Long is = absurd (cc is)

-- no input that is well formed ends as malformed or too long
not_malformed : (ms : List Message) (rs : List (List ℕ)) (at : ℕ) (l0 l w0 w : Option (List ℕ))
    → IsHeardBetween ms rs (sessions.Malformed at) l0 l w0 w → IsSomeAnd l0 IsWellFormed → IsSome w0 → ⊥
not_malformed ms rs at None l w0 w heard formed told = formed
not_malformed ms rs at (Some input) None w0 w heard formed told = heard
not_malformed ms rs at (Some input) (Some left) None w heard formed told = absurd (cc told)
not_malformed ms rs at (Some input) (Some left) (Some before) w heard formed told = formed.whole ms heard.2.rest heard.2.reads heard.2.ends.0

not_long : (ms : List Message) (rs : List (List ℕ)) (l0 l w0 w : Option (List ℕ))
    → IsHeardBetween ms rs sessions.Long l0 l w0 w → IsSomeAnd l0 IsWellFormed → IsSome w0 → ⊥
not_long ms rs None l w0 w heard formed told = formed
not_long ms rs (Some input) None w0 w heard formed told = heard
not_long ms rs (Some input) (Some left) None w heard formed told = absurd (cc told)
not_long ms rs (Some input) (Some left) (Some before) w heard formed told =
    let whole : length input ≡ STREAM_BYTES + length left = heard.2.ends.1 in
    let short : length input < STREAM_BYTES = formed.short in
    omega arith

-- so it ends at its end, unless there was no memory to begin
pub ends_well : (end : SessionEnd) (ms : List Message) (rs : List (List ℕ)) (l0 l w0 w : Option (List ℕ)) (a b c d : ℕ)
    → IsHeardBetween ms rs end l0 l w0 w → SessionHasCause end a b c d → IsSomeAnd l0 IsWellFormed → IsSome w0
    → ¬ (Rose a b) → ¬ (Rose c d) → (end ≡ sessions.End) ⊎ (end ≡ sessions.NoMemory)
ends_well sessions.End ms rs l0 l w0 w a b c d heard cause formed told calm still = inl refl
ends_well (sessions.Malformed at) ms rs l0 l w0 w a b c d heard cause formed told calm still =
    absurd (not_malformed ms rs at l0 l w0 w heard formed told)
ends_well sessions.Long ms rs l0 l w0 w a b c d heard cause formed told calm still =
    absurd (not_long ms rs l0 l w0 w heard formed told)
ends_well sessions.InputFault ms rs l0 l w0 w a b c d heard cause formed told calm still = absurd (calm cause)
ends_well sessions.OutputFault ms rs l0 l w0 w a b c d heard cause formed told calm still = absurd (still cause)
ends_well sessions.NoMemory ms rs l0 l w0 w a b c d heard cause formed told calm still = inr refl

session_completes : (end : SessionEnd) → (end ≡ sessions.End) ⊎ (end ≡ sessions.NoMemory) → IsDone (status_of (session_ending end))
session_completes end is =
    ⊎_elim
    (λ done. inl (ap (λ (e : SessionEnd). status_of (session_ending e)) done))
    (λ none. inr (ap (λ (e : SessionEnd). status_of (session_ending e)) none))
    is

-- with some workers
pub over_some : {D : Type 0} (g : Ghosts D) (name : List ℕ) (workers : ℕ) (end : Result SessionEnd OpenFault) (before after : Told D)
    → workers ≢ 0
    → RunsOver g name (LeadsTo g) (ServedBesideWorkers g workers (ends_told before.input before.output) (ends_told after.input after.output)) end
    before.cabinet after.cabinet
    → RepliesOver g name workers end before after
over_some g name zero end before after some over = absurd (some refl)
over_some g name (suc workers) end before after some over = over

-- why the journal was not opened, however many workers there were to be
unopened : {D : Type 0} (g : Ghosts D) (name : List ℕ) (workers : ℕ) (why : OpenFault) (before after : Told D)
    → RepliesOver g name workers (Err why) before after → IsNotOpenedUnder g name why before.cabinet after.cabinet
unopened g name zero why before after over = over
unopened g name (suc workers) why before after over = over

-- what was heard, likewise, unless there was no memory to begin
heard : {D : Type 0} (g : Ghosts D) (name : List ℕ) (workers : ℕ) (end : SessionEnd) (before after : Told D)
    → RepliesOver g name workers (Ok end) before after
    → ((ms : List Message) × (rs : List (List ℕ))
    × IsHeardBetween ms rs end before.input.bytes after.input.bytes before.output.bytes after.output.bytes) ⊎ (end ≡ sessions.NoMemory)
heard g name zero end before after over = inl (over.worked.messages, over.worked.replies, over.worked.heard)
heard g name (suc workers) end before after over =
    ⊎_elim
    (λ w. inl (w.beside.ends_in.messages, w.beside.ends_in.replies, w.beside.ends_in.heard))
    (λ none. inr none.0)
    over.worked.worked

module _ {S K E C L P D : Type 0} (g : Ghosts D) (tell : World S K E C L P → Told D) (name : List ℕ) (workers : ℕ) where
  -- what a run of `batch` needs to find, and not to meet
  abbrev IsReady : Told D → Type 0
  IsReady found = HasSound g name found.cabinet.places × (IsSomeAnd found.input.bytes IsWellFormed × IsSome found.output.bytes)

  abbrev IsWell : Told D → Told D → Type 0
  IsWell before after = StreamsAreWell before after × CabinetIsWell before after

  cause : (end : Result SessionEnd OpenFault) (before after : World S K E C L P) → ServesInput g tell name workers end before after
      → HasCause (status_of (ending_over session_ending end)) (tell before) (tell after)
  cause (Ok end) before after did = session_cause end (tell before) (tell after) did.cause
  cause (Err why) before after did = unopened_cause why (tell before) (tell after) (unopened g name workers why (tell before) (tell after) did.over).cause

  early : (end : Result SessionEnd OpenFault) (before after : World S K E C L P) → ServesInput g tell name workers end before after
      → IsEarly (status_of (ending_over session_ending end)) → StreamsStay before after
  early (Ok end) before after did is = absurd (session_early end is)
  early (Err why) before after did is = did.unserved tt

  -- without memory nothing was read either
  pub unserved : (end : Result SessionEnd OpenFault) (before after : World S K E C L P) → ServesInput g tell name workers end before after
      → status_of (ending_over session_ending end) ≡ 6 → StreamsStay before after
  unserved (Ok end) before after did is = did.unserved (session_memory end is)
  unserved (Err why) before after did is = did.unserved tt

  complete : (end : Result SessionEnd OpenFault) (before after : World S K E C L P) → ServesInput g tell name workers end before after
      → IsReady (tell before) → IsWell (tell before) (tell after) → IsDone (status_of (ending_over session_ending end))
  complete (Ok end) before after did ready well =
      ⊎_elim
      (λ h. session_completes end
      (ends_well end h.0 h.1
      (tell before).input.bytes (tell after).input.bytes (tell before).output.bytes (tell after).output.bytes
      (tell before).input.faults (tell after).input.faults (tell before).output.faults (tell after).output.faults
      h.2 did.cause ready.1.0 ready.1.1 well.0.0 well.0.1))
      (λ is. inr (ap (λ (e : SessionEnd). status_of (session_ending e)) is))
      (heard g name workers end (tell before) (tell after) did.over)
  complete (Err why) before after did ready well =
      inr (sound_opens g name why (tell before).cabinet (tell after).cabinet (unopened g name workers why (tell before) (tell after) did.over)
      ready.0 well.1)

  pub batch_lawful : IsLawful tell (ending_over session_ending) IsReady IsWell (λ end before after. ServesInput g tell name workers end before after)
  batch_lawful = record {
    cause = cause;
    early = early;
    unwritten = λ end before after did is. (unserved end before after did is).1;
    complete = complete;
  }
