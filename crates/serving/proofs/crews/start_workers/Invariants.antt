use Rattle.std.specs.Prelude.{◌≡◌, ◌+◌, ◌<◌, ◌≤◌, All, length, vec_capacity, vec_len}
use Rattle.serving.specs.Crews.{IsDue, IsEmployed}
use Rattle.shared_office.specs.Passing.{IsOf}
use Rattle.turnstile.specs.Passes.{seen, share, tally}
use Rattle.serving.proofs.crews.start_workers.Given as goal

-- some workers are left; those before were started or handed back
abbrev pub invariant-loop-hand : goal.invariant-loop-hand
invariant-loop-hand g l =
    (goal.iterator-loop-hand g).can_next l.hand-iterator × (goal.iterator-loop-hand g).is_finite l.hand-iterator
    × IsOf l.lock l.pass
    × (share l.pass + l.fn.workers ≡ share l.fn.given + length l.hand-iterator.rest.items)
    × (vec_len l.tasks + vec_len l.kept + length l.hand-iterator.rest.items ≡ l.fn.workers)
    × ((l.fn.workers ≤ vec_capacity l.tasks) × (l.fn.workers ≤ vec_capacity l.kept))
    × All (λ h. h.lock.value ≡ l.lock) l.hand-iterator.rest.items
    × All (IsEmployed l.lock (seen l.fn.given)) l.tasks.items
    × All (IsDue l.lock (seen l.fn.given)) l.kept.items
    × ((seen l.pass ≡ seen l.fn.given) × (tally l.pass ≡ tally l.fn.given))
