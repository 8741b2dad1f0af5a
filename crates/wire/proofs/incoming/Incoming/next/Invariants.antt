use Rattle.std.proofs.Common.{◌≡◌, ◌⊎◌, ◌-◌, ◌≤◌, ◌++◌, length, take}
use Rattle.wire.specs.Incoming.{AwaitsHead, IsUnsettled}
use Rattle.wire.proofs.IncomingLemmas.{Told}
use Rattle.wire.proofs.incoming.Incoming.next.Given as goal

-- the rest of the stream is as it was, and the bytes that were looked at settle nothing
abbrev pub invariant-loop-head : goal.invariant-loop-head
invariant-loop-head g l = record {
  offset : l.self.offset ≡ l.fn.self.offset;
  rest : Told (g.S.Source.left l.fn.source) (g.S.Source.left l.source) (λ b a. l.fn.self.ahead ++ b ≡ l.self.ahead ++ a);
  looked : l.looked ≤ length l.self.ahead;
  unsettled : AwaitsHead (take l.looked l.self.ahead);
  counted : g.S.Source.faults l.fn.source ≤ g.S.Source.faults l.source;
  ended : g.S.Source.ends l.source ≡ g.S.Source.ends l.fn.source;
  asked : ((l.source ≡ l.fn.source) × (l.self.ahead ≡ l.fn.self.ahead)) ⊎ IsUnsettled l.fn.self.ahead;
}

abbrev pub decreases-loop-head : goal.decreases-loop-head
decreases-loop-head g l = 8192 - length l.self.ahead
