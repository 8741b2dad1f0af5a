use Rattle.std.proofs.Common.{map, string_bytes, inl, inr, refl, subst}
use Rattle.command_words.proofs.LawLemmas.{nothing_else}
use Rattle.command_words.proofs.WordLemmas.{one_is_asked}
use Rattle.command_words.specs.Commands.{asked_by}
use Rattle.command_words.specs.Words.{Asked}
use Rattle.commands.proofs.RunLemmas.{cause, complete}
use Rattle.commands.proofs.top.run_office.Goals as goal
use Rattle.commands.specs.Runs.{Runs}
use Rattle.commands.specs.Worlds.{told_by, world}
use Rattle.commands.specs.declared.endings.Ending.TheVariants.{NoMemory}

pub returns-in-Ok-clause-runs : goal.returns-in-Ok-clause-runs
returns-in-Ok-clause-runs g c = λ asked is.
    let run = c.run_command in
    subst
    (λ (a : Asked). Runs g.C.Disk.Disk (told_by g.S.Source g.K.Sink g.E.Sink g.C.Cabinet g.L.Doors g.P.Spawner) a run.result
    (world c.args.input.now c.args.output.now c.args.faults.now c.args.cabinet.now c.args.doors.now c.args.spawner.now)
    (world run.new.input run.new.output run.new.faults run.new.cabinet run.new.doors run.new.spawner))
    (one_is_asked (map string_bytes c.args.words.now) (asked_by c.in-Ok.command) asked c.in-Ok.ensures.ok is)
    run.ensures

pub returns-in-Ok-clause-usage : goal.returns-in-Ok-clause-usage
returns-in-Ok-clause-usage g c =
    let run = c.run_command in
    let causes = cause g.C.Disk.Disk (told_by g.S.Source g.K.Sink g.E.Sink g.C.Cabinet g.L.Doors g.P.Spawner) (asked_by c.in-Ok.command) run.result
    (world c.args.input.now c.args.output.now c.args.faults.now c.args.cabinet.now c.args.doors.now c.args.spawner.now)
    (world run.new.input run.new.output run.new.faults run.new.cabinet run.new.doors run.new.spawner) run.ensures in
    (λ is. absurd (causes.asked is), λ nothing. absurd (nothing (asked_by c.in-Ok.command) c.in-Ok.ensures.ok))

pub returns-in-Ok-clause-refused : goal.returns-in-Ok-clause-refused
returns-in-Ok-clause-refused g c = inr (asked_by c.in-Ok.command, c.in-Ok.ensures.ok)

pub returns-in-Ok-clause-complete : goal.returns-in-Ok-clause-complete
returns-in-Ok-clause-complete g c = λ asked is ready well.
    let run = c.run_command in
    let tell = told_by g.S.Source g.K.Sink g.E.Sink g.C.Cabinet g.L.Doors g.P.Spawner in
    let before = world c.args.input.now c.args.output.now c.args.faults.now c.args.cabinet.now c.args.doors.now c.args.spawner.now in
    let after = world run.new.input run.new.output run.new.faults run.new.cabinet run.new.doors run.new.spawner in
    complete g.C.Disk.Disk tell asked run.result before after
    (subst (λ (a : Asked). Runs g.C.Disk.Disk tell a run.result before after)
    (one_is_asked (map string_bytes c.args.words.now) (asked_by c.in-Ok.command) asked c.in-Ok.ensures.ok is)
    run.ensures)
    ready well

-- there was no memory for the words, and nothing was done
pub returns-in-Err-NoMemory-clause-runs : goal.returns-in-Err-NoMemory-clause-runs
returns-in-Err-NoMemory-clause-runs g c = λ asked is. record {
  ending = NoMemory;
  told = record {
    status_is = c.finish-in-Err-NoMemory.ensures.status;
    line_is = c.finish-in-Err-NoMemory.ensures.line;
  };
  did = inl (refl, record { streams = (refl, refl); cabinet = refl; doors = (refl, refl) });
}

pub returns-in-Ok-clause-input_fault : goal.returns-in-Ok-clause-input_fault
returns-in-Ok-clause-input_fault g c =
    let run = c.run_command in
    (cause g.C.Disk.Disk (told_by g.S.Source g.K.Sink g.E.Sink g.C.Cabinet g.L.Doors g.P.Spawner) (asked_by c.in-Ok.command) run.result
    (world c.args.input.now c.args.output.now c.args.faults.now c.args.cabinet.now c.args.doors.now c.args.spawner.now)
    (world run.new.input run.new.output run.new.faults run.new.cabinet run.new.doors run.new.spawner) run.ensures).input

pub returns-in-Ok-clause-output_fault : goal.returns-in-Ok-clause-output_fault
returns-in-Ok-clause-output_fault g c =
    let run = c.run_command in
    (cause g.C.Disk.Disk (told_by g.S.Source g.K.Sink g.E.Sink g.C.Cabinet g.L.Doors g.P.Spawner) (asked_by c.in-Ok.command) run.result
    (world c.args.input.now c.args.output.now c.args.faults.now c.args.cabinet.now c.args.doors.now c.args.spawner.now)
    (world run.new.input run.new.output run.new.faults run.new.cabinet run.new.doors run.new.spawner) run.ensures).output

pub returns-in-Ok-clause-disk_fault : goal.returns-in-Ok-clause-disk_fault
returns-in-Ok-clause-disk_fault g c =
    let run = c.run_command in
    (cause g.C.Disk.Disk (told_by g.S.Source g.K.Sink g.E.Sink g.C.Cabinet g.L.Doors g.P.Spawner) (asked_by c.in-Ok.command) run.result
    (world c.args.input.now c.args.output.now c.args.faults.now c.args.cabinet.now c.args.doors.now c.args.spawner.now)
    (world run.new.input run.new.output run.new.faults run.new.cabinet run.new.doors run.new.spawner) run.ensures).cabinet

pub returns-in-Ok-clause-door_fault : goal.returns-in-Ok-clause-door_fault
returns-in-Ok-clause-door_fault g c =
    let run = c.run_command in
    (cause g.C.Disk.Disk (told_by g.S.Source g.K.Sink g.E.Sink g.C.Cabinet g.L.Doors g.P.Spawner) (asked_by c.in-Ok.command) run.result
    (world c.args.input.now c.args.output.now c.args.faults.now c.args.cabinet.now c.args.doors.now c.args.spawner.now)
    (world run.new.input run.new.output run.new.faults run.new.cabinet run.new.doors run.new.spawner) run.ensures).doors

-- what was asked can be asked
pub run_command-requires-clause-asked : goal.run_command-requires-clause-asked
run_command-requires-clause-asked g c κs within =
    nothing_else (map string_bytes c.args.words.now) (asked_by c.in-Ok.command) c.in-Ok.ensures.ok
