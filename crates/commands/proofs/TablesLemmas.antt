-- What the end of a run that writes a table says of its status.
use Rattle.std.proofs.Common.{◌≡◌, ℕ, List, Ok, Err, Result, refl, inl, inr}
use Rattle.devices.specs.Faults.{Rose}
use Rattle.devices.specs.declared.disks.Disk.{Ghosts}
use Rattle.history.specs.Events.{History}
use Rattle.journal.specs.declared.opening.OpenFault.{OpenFault}
use Rattle.table_writing.specs.Ends.{TableCause}
use Rattle.table_writing.specs.declared.writing.TableEnd.{TableEnd}
use Rattle.table_writing.specs.declared.writing.TableEnd.TheVariants as tables
use Rattle.commands.proofs.Lawful.{HasCause, IsEarly, IsLawful, innocent, not_early}
use Rattle.commands.proofs.LoadingLemmas.{output_rose}
use Rattle.commands.proofs.OpeningLemmas.{sound_opens, unopened_cause}
use Rattle.commands.specs.Opening.{ending_over}
use Rattle.commands.specs.Ready.{CabinetIsWell, HasSound, IsDone, OutputIsWell}
use Rattle.commands.specs.Statuses.{status_of}
use Rattle.commands.specs.Tables.{WritesTable, table_ending}
use Rattle.commands.specs.Worlds.{StreamsStay, Told, World}

causes : {D : Type 0} (end : TableEnd) (before after : Told D) → TableCause end before.output.faults after.output.faults
    → HasCause (status_of (table_ending end)) before after
causes tables.Done before after cause = innocent 0 before after refl
causes tables.OutputFault before after cause = output_rose before after cause
causes tables.NoMemory before after cause = innocent 6 before after refl

begun : (end : TableEnd) → IsEarly (status_of (table_ending end)) → ⊥
begun tables.Done is = not_early 0 refl is
begun tables.OutputFault is = not_early 3 refl is
begun tables.NoMemory is = not_early 6 refl is

memory : (end : TableEnd) → status_of (table_ending end) ≡ 6 → end ≡ tables.NoMemory
memory tables.Done is = absurd (cc is)
memory tables.OutputFault is = absurd (cc is)
memory tables.NoMemory is = refl

done : (end : TableEnd) (a b : ℕ) → TableCause end a b → ¬ (Rose a b) → IsDone (status_of (table_ending end))
done tables.Done a b cause still = inl refl
done tables.OutputFault a b cause still = absurd (still cause)
done tables.NoMemory a b cause still = inr refl

module _ {S K E C L P D : Type 0} (g : Ghosts D) (tell : World S K E C L P → Told D) (name : List ℕ) (turns : ℕ) (text : History → List ℕ) where
  abbrev Did : Result TableEnd OpenFault → World S K E C L P → World S K E C L P → Type 0
  Did end before after = WritesTable g tell name turns text end before after

  -- what such a run needs to find, and not to meet
  abbrev IsReady : Told D → Type 0
  IsReady found = HasSound g name found.cabinet.places

  abbrev IsWell : Told D → Told D → Type 0
  IsWell before after = OutputIsWell before after × CabinetIsWell before after

  cause : (end : Result TableEnd OpenFault) (before after : World S K E C L P) → Did end before after
      → HasCause (status_of (ending_over table_ending end)) (tell before) (tell after)
  cause (Ok end) before after did = causes end (tell before) (tell after) did.cause
  cause (Err why) before after did = unopened_cause why (tell before) (tell after) did.over.cause

  early : (end : Result TableEnd OpenFault) (before after : World S K E C L P) → Did end before after
      → IsEarly (status_of (ending_over table_ending end)) → StreamsStay before after
  early (Ok end) before after did is = absurd (begun end is)
  early (Err why) before after did is = (did.input, did.unopened refl)

  unwritten : (end : Result TableEnd OpenFault) (before after : World S K E C L P) → Did end before after
      → status_of (ending_over table_ending end) ≡ 6 → after.output ≡ before.output
  unwritten (Ok end) before after did is = did.unwritten (memory end is)
  unwritten (Err why) before after did is = did.unopened refl

  complete : (end : Result TableEnd OpenFault) (before after : World S K E C L P) → Did end before after
      → IsReady (tell before) → IsWell (tell before) (tell after) → IsDone (status_of (ending_over table_ending end))
  complete (Ok end) before after did ready well = done end (tell before).output.faults (tell after).output.faults did.cause well.0
  complete (Err why) before after did ready well =
      inr (sound_opens g name why (tell before).cabinet (tell after).cabinet did.over ready well.1)

  pub table_lawful : IsLawful tell (ending_over table_ending) IsReady IsWell Did
  table_lawful = record { cause = cause; early = early; unwritten = unwritten; complete = complete }
