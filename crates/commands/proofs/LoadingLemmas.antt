-- What the end of a run that loads an input says of its status.
use Rattle.std.proofs.Common.{◌≡◌, ◌⊎◌, ℕ, List, Ok, Err, IsSomeAnd, Result, refl, inr}
use Rattle.devices.specs.Faults.{Rose}
use Rattle.devices.specs.declared.disks.Disk.{Ghosts}
use Rattle.history.specs.After.{reopen}
use Rattle.history.specs.Events.{History}
use Rattle.journal.specs.declared.opening.OpenFault.{OpenFault}
use Rattle.office_inputs.specs.Usual.{usual}
use Rattle.commands.proofs.Lawful.{HasCause, IsEarly, IsLawful}
use Rattle.commands.proofs.OpeningLemmas.{sound_opens, unopened_cause}
use Rattle.commands.specs.Loading.{Caused, CausedBetween, Loaded, LoadsInput}
use Rattle.commands.specs.Opening.{ending_over}
use Rattle.commands.specs.Ready.{CabinetIsWell, HasSound, IsDone, StreamsAreWell}
use Rattle.commands.specs.Statuses.{status_of}
use Rattle.commands.specs.Worlds.{Stream, StreamsStay, Told, World}
use Rattle.commands.specs.declared.endings.Ending.{Ending}

-- a fault of a stream is that of its object
pub input_rose : {D : Type 0} (before after : Told D) → Rose before.input.faults after.input.faults → HasCause 2 before after
input_rose before after rose = record {
  asked = λ is. cc is;
  input = λ is. rose;
  output = λ is. absurd (cc is);
  cabinet = λ is. absurd (cc is);
  doors = λ is. absurd (cc is);
}

pub output_rose : {D : Type 0} (before after : Told D) → Rose before.output.faults after.output.faults → HasCause 3 before after
output_rose before after rose = record {
  asked = λ is. cc is;
  input = λ is. absurd (cc is);
  output = λ is. rose;
  cabinet = λ is. absurd (cc is);
  doors = λ is. absurd (cc is);
}

module _ {S K E C L P D End : Type 0} (g : Ghosts D) (tell : World S K E C L P → Told D) (name : List ℕ) (ending_of : End → Ending)
    (Loads : Loaded End) (Cause : Caused End) (IsUnasked : End → Type 0) (IsStated : List ℕ → Type 0) where
  abbrev Did : Result End OpenFault → World S K E C L P → World S K E C L P → Type 0
  Did end before after = LoadsInput g tell name Loads Cause IsUnasked end before after

  -- what such a run needs to find, and not to meet
  abbrev IsReady : Told D → Type 0
  IsReady found = HasSound g name found.cabinet.places × IsSomeAnd found.input.bytes IsStated

  abbrev IsWell : Told D → Told D → Type 0
  IsWell before after = StreamsAreWell before after × CabinetIsWell before after

  -- what is to be known of the ends: a fault of a stream is told where its count rose
  abbrev Causes : Type 0
  Causes = (end : End) (before after : Told D) → CausedBetween Cause before.input after.input before.output after.output end
      → HasCause (status_of (ending_of end)) before after

  -- a loading that was begun does not end early
  abbrev Begun : Type 0
  Begun = (end : End) → IsEarly (status_of (ending_of end)) → ⊥

  -- without memory the office was asked nothing
  abbrev AsksWithMemory : Type 0
  AsksWithMemory = (end : End) → status_of (ending_of end) ≡ 6 → IsUnasked end

  -- an input that states something is loaded where no stream fails, or there was no memory
  abbrev LoadsStated : Type 0
  LoadsStated = (end : End) (input left output written : Stream) (h last : History) → Loads input left output written end h last
      → CausedBetween Cause input left output written end → IsSomeAnd input.bytes IsStated
      → ¬ (Rose input.faults left.faults) → ¬ (Rose output.faults written.faults) → IsDone (status_of (ending_of end))

  cause : Causes → (end : Result End OpenFault) (before after : World S K E C L P) → Did end before after
      → HasCause (status_of (ending_over ending_of end)) (tell before) (tell after)
  cause causes (Ok end) before after did = causes end (tell before) (tell after) did.cause
  cause causes (Err why) before after did = unopened_cause why (tell before) (tell after) did.over.cause

  early : Begun → (end : Result End OpenFault) (before after : World S K E C L P) → Did end before after
      → IsEarly (status_of (ending_over ending_of end)) → StreamsStay before after
  early begun (Ok end) before after did is = absurd (begun end is)
  early begun (Err why) before after did is = did.unopened refl

  unwritten : AsksWithMemory → (end : Result End OpenFault) (before after : World S K E C L P) → Did end before after
      → status_of (ending_over ending_of end) ≡ 6 → after.output ≡ before.output
  unwritten memory (Ok end) before after did is = did.unasked (memory end is)
  unwritten memory (Err why) before after did is = (did.unopened refl).1

  complete : LoadsStated → (end : Result End OpenFault) (before after : World S K E C L P) → Did end before after
      → IsReady (tell before) → IsWell (tell before) (tell after) → IsDone (status_of (ending_over ending_of end))
  complete stated (Ok end) before after did ready well =
      stated end (tell before).input (tell after).input (tell before).output (tell after).output (reopen usual did.over.last.format did.over.pieces)
      did.over.last did.over.worked did.cause ready.1 well.0.0 well.0.1
  complete stated (Err why) before after did ready well =
      inr (sound_opens g name why (tell before).cabinet (tell after).cabinet did.over ready.0 well.1)

  pub lawful_loading : Causes → Begun → AsksWithMemory → LoadsStated → IsLawful tell (ending_over ending_of) IsReady IsWell Did
  lawful_loading causes begun memory stated =
      record { cause = cause causes; early = early begun; unwritten = unwritten memory; complete = complete stated }

  -- nothing is written where the loading ended at the input, which is told by a status of its own
  pub unwritten_unread : (refused : ℕ) → ((end : End) → (status_of (ending_of end) ≡ 2) ⊎ (status_of (ending_of end) ≡ refused) → IsUnasked end)
      → (end : Result End OpenFault) (before after : World S K E C L P) → Did end before after
      → (status_of (ending_over ending_of end) ≡ 2) ⊎ (status_of (ending_over ending_of end) ≡ refused) → after.output ≡ before.output
  unwritten_unread refused unasked (Ok end) before after did is = did.unasked (unasked end is)
  unwritten_unread refused unasked (Err why) before after did is = (did.unopened refl).1
