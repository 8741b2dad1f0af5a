-- The first day that awaits an edit is sought from the next day on.
use Rattle.history.specs.Awaited.{is_pending}
use Rattle.register.proofs.ReviewLemmas.{IsSought}
use Rattle.register.proofs.registers.Register.awaiting.Given as goal

abbrev pub invariant-loop-number : goal.invariant-loop-number
invariant-loop-number l = IsSought (is_pending l.self.history.events l.site) l.fn.from l.fn.to l.number
