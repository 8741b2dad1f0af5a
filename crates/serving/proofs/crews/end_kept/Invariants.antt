use Rattle.std.specs.Prelude.{◌≡◌, ◌+◌, ℕ, All, length, vec_len}
use Rattle.serving.specs.Crews.{AreJoined, IsDue}
use Rattle.shared_office.specs.Passing.{IsOf}
use Rattle.turnstile.specs.Passes.{seen}
use Rattle.serving.proofs.crews.end_kept.Given as goal

-- some are left; the passes of those before were joined
abbrev pub invariant-loop-outcome : goal.invariant-loop-outcome
invariant-loop-outcome g l =
    (goal.iterator-loop-outcome g).can_next l.outcome-iterator × (goal.iterator-loop-outcome g).is_finite l.outcome-iterator
    × IsOf l.lock l.pass
    × All (IsDue l.lock (seen l.begun.value)) l.outcome-iterator.rest.items
    × ((count : ℕ) × (count + length l.outcome-iterator.rest.items ≡ vec_len l.fn.kept) × AreJoined l.lock (seen l.begun.value) l.fn.given l.pass count)
