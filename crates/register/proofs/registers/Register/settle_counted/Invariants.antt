-- So many of the days that were pending are published, and the others are left.
use Rattle.std.proofs.Common.{◌≡◌, length}
use Rattle.history.specs.Awaited.{pending_days}
use Rattle.register.proofs.SettleLemmas.{IsOnTheWay}
use Rattle.register.proofs.registers.Register.settle_counted.Given as goal

abbrev pub invariant-loop : goal.invariant-loop
invariant-loop g l = record {
  way : IsOnTheWay l.fn.self l.self l.counter;
  counted : l.count ≡ length (pending_days l.fn.self.history.events);
}
