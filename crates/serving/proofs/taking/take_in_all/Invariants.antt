use Rattle.std.specs.Prelude.{◌≡◌, ◌<◌, ◌≤◌, ◌+◌, ℕ, List, length, None}
use mathlib.Core.List.{IsPrefix}
use Rattle.devices.specs.Doors.{Ends, ends_of}
use Rattle.serving.specs.Connections.{IsTasked}
use Rattle.serving.specs.Taking.{AreTasked}
use Rattle.serving.proofs.TakingLemmas.{InBetween}
use Rattle.shared_office.specs.Passing.{IsOf, fixed_in}
use Rattle.shared_office.specs.declared.entries.Entry.{Entry}
use Rattle.turnstile.specs.Passes.{seen, share}
use Rattle.serving.proofs.taking.take_in_all.Given as goal

-- some connections are left; those before were taken in
abbrev pub invariant-loop-task : goal.invariant-loop-task
invariant-loop-task g l =
    let P = λ (start : List Entry). IsTasked (λ p. p.lock.value) (λ p. p.given.value) (λ p. ends_of g.L.In.Source g.L.Out.Sink p.input.value p.output.value) g.L.Doors.ends l.lock start in
    let given = (g.L.Doors.told l.fn.doors).given in
    (goal.iterator-loop-task g).can_next l.task-iterator × (goal.iterator-loop-task g).is_finite l.task-iterator
    × IsOf l.lock l.pass
    × (share l.pass + 1 ≡ share l.fn.given + l.number)
    × IsPrefix (seen l.fn.given) (seen l.pass)
    × ((g.L.Doors.told l.doors).given ≡ given)
    × ((g.L.Doors.listens l.doors ≡ g.L.Doors.listens l.fn.doors) × (g.L.Doors.faults l.doors ≡ g.L.Doors.faults l.fn.doors))
    × ((rest : List Ends)
    × (l.number + length rest ≡ length given + 1)
    × ((length given ≤ 10000) × (0 < l.number))
    × ((n : ℕ) → l.number ≤ n → (g.L.Doors.told l.doors).back n ≡ None)
    × ((start : List Entry) × AreTasked (P start) rest l.task-iterator.rest.items)
    × ((start : List Entry) → AreTasked (P start) given l.fn.tasks.items
    → InBetween (P start) (fixed_in l.lock) (length start) given l.fn.given l.number rest l.task-iterator.rest.items l.pass (g.L.Doors.told l.doors)))
