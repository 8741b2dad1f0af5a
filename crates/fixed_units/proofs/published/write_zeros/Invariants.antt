use Rattle.std.proofs.Common.{◌≡◌, ◌++◌, replicate}
use Rattle.fixed_units.proofs.published.write_zeros.Given as goal

abbrev pub invariant-zeros : goal.invariant-zeros
invariant-zeros l = l.out ≡ l.fn.out ++ replicate l.counter 48
