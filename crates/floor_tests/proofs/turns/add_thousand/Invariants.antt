use Rattle.std.proofs.Common.{◌≡◌}
use Rattle.turnstile.specs.Passes.{share}
use Rattle.floor_tests.specs.Numbered.{IsOf}
use Rattle.floor_tests.proofs.turns.add_thousand.Given as goal

abbrev pub invariant-loop-count : goal.invariant-loop-count
invariant-loop-count g l = IsOf l.lock l.pass × (share l.pass ≡ share l.fn.given)
