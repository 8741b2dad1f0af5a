use Rattle.std.proofs.Common.{[], ap, ◌∙◌}
use Rattle.turnstile.specs.Passes.{seen, value_of}
use Rattle.shared_office.specs.Entries.{fixed_part}
use Rattle.shared_office.specs.Passing.{fixed_of, listed}
use Rattle.shared_office.proofs.HoldingLemmas.{once_adding}
use Rattle.shared_office.proofs.TaskLemmas.{drained_behind, fixed_alone, found_of, unchanged}
use Rattle.shared_office.proofs.holdings.find.Goals as goal

pub returns-clause-held : goal.returns-clause-held
returns-clause-held g c =
    let e = c.enter-held.ensures in let l = c.leave.ensures in let w = c.value_mut.result.now in let u = c.find-found.new.self in
    let list = c.find-found.ensures.list in
    let task = found_of c.args.lock.now w u c.find-found.result (ap fixed_of c.value_mut.ensures.value ∙ fixed_alone (value_of c.enter-held.result) c.args.lock.now e.fixed) c.find-found.ensures.step list.2
    c.find-found.ensures.found in (
      listed w,
      once_adding c.args.pass c.leave.result c.enter-held.result w u [] c.value_mut.ensures.value list.2 e.begins e.entered e.share e.tally l.seen l.share l.tally,
      task.0,
      task.1,
    )

pub returns-clause-drained : goal.returns-clause-drained
returns-clause-drained g c = λ told.
    drained_behind c.args.lock.now c.value_mut.result.now c.find-found.new.self c.find-found.result (seen c.leave.result)
    (ap fixed_of c.value_mut.ensures.value ∙ fixed_alone (value_of c.enter-held.result) c.args.lock.now c.enter-held.ensures.fixed) c.leave.ensures.seen c.find-found.ensures.list.2 c.find-found.ensures.found told

pub leave-requires-clause-fixed : goal.leave-requires-clause-fixed
leave-requires-clause-fixed g c =
    unchanged c.args.lock.now _ c.value_mut.result.now c.find-found.new.self c.value_mut.ensures.value c.enter-held.ensures.fixed (ap fixed_part c.find-found.ensures.list.0)
    c.find-found.ensures.begun
