use Rattle.std.specs.Prelude.{◌≡◌, ◌+◌, ℕ, All, length, vec_len}
use Rattle.serving.specs.Crews.{AreJoined, IsEmployed}
use Rattle.shared_office.specs.Passing.{IsOf}
use Rattle.turnstile.specs.Passes.{seen}
use Rattle.serving.proofs.crews.take_in.Given as goal

-- some are left; the passes of those before were joined
abbrev pub invariant-loop-task : goal.invariant-loop-task
invariant-loop-task g l =
    (goal.iterator-loop-task g).can_next l.task-iterator × (goal.iterator-loop-task g).is_finite l.task-iterator
    × IsOf l.lock l.pass
    × All (IsEmployed l.lock (seen l.begun.value)) l.task-iterator.rest.items
    × ((count : ℕ) × (count + length l.task-iterator.rest.items ≡ vec_len l.fn.tasks) × AreJoined l.lock (seen l.begun.value) l.fn.given l.pass count)
