use Rattle.std.proofs.Common.{◌≡◌, ◌⊎◌, ℕ, ◌+◌, ◌-◌, ◌^◌, ◌≤◌, ◌<◌, true, List, ◌++◌, length}
use Rattle.wire.specs.Messages.{is_blank}
use Rattle.wire.specs.Looking.{IsBlankWindow}
use Rattle.wire.proofs.IncomingLemmas.{Told}
use Rattle.wire.proofs.incoming.Incoming.skip_blank.Given as goal

-- blank bytes were skipped, and with those at hand they begin with a whole window of blank bytes
abbrev pub invariant-loop-self : goal.invariant-loop-self
invariant-loop-self g l = record {
  skipped : (skipped : List ℕ) × (length skipped ≡ l.self.offset - l.fn.self.offset) × (is_blank skipped ≡ true)
      × IsBlankWindow (skipped ++ l.self.ahead)
      × Told (g.S.Source.left l.fn.source) (g.S.Source.left l.source)
      (λ b a. l.fn.self.ahead ++ b ≡ skipped ++ (l.self.ahead ++ a));
  some : 0 < length l.self.ahead;
  forward : l.fn.self.offset ≤ l.self.offset;
  begun : l.begun ≡ l.fn.self.offset;
  limit : l.self.offset + length l.self.ahead ≤ 2 ^ 36;
  counted : g.S.Source.faults l.fn.source ≤ g.S.Source.faults l.source;
  ended : g.S.Source.ends l.source ≡ g.S.Source.ends l.fn.source;
  asked : ((l.source ≡ l.fn.source) × (l.self.ahead ≡ l.fn.self.ahead)) ⊎ (is_blank l.fn.self.ahead ≡ true);
}

abbrev pub decreases-loop-self : goal.decreases-loop-self
decreases-loop-self g l = 2 ^ 36 - l.self.offset
