use Rattle.std.proofs.Common.{◌≡◌, ◌⊎◌, ℕ, ◌+◌, ◌-◌, ◌^◌, ◌≤◌, ◌<◌, true, List, ◌++◌, length}
use Rattle.wire.proofs.IncomingLemmas.{Told}
use Rattle.wire.proofs.incoming.Incoming.pass_bytes.Given as goal

-- some bytes were passed, and are in the text where it is kept; as many are missing as make the count full
abbrev pub invariant-loop-missing : goal.invariant-loop-missing
invariant-loop-missing g l = record {
  passed : (bytes : List ℕ) × (length bytes + l.missing ≡ l.fn.count) × (l.self.offset ≡ l.fn.self.offset + length bytes)
      × (l.kept ≡ true → l.text ≡ l.fn.text ++ bytes)
      × Told (g.S.Source.left l.fn.source) (g.S.Source.left l.source)
      (λ b a. l.fn.self.ahead ++ b ≡ bytes ++ (l.self.ahead ++ a));
  kept : l.kept ≡ true → l.fn.keeps ≡ true;
  counted : g.S.Source.faults l.fn.source ≤ g.S.Source.faults l.source;
  ended : g.S.Source.ends l.source ≡ g.S.Source.ends l.fn.source;
  asked : ((l.source ≡ l.fn.source) × (l.self.ahead ≡ l.fn.self.ahead) × (l.missing ≡ l.fn.count))
      ⊎ ((length l.fn.self.ahead < l.fn.count) × (0 < l.missing));
}

abbrev pub decreases-loop-missing : goal.decreases-loop-missing
decreases-loop-missing g l = 2 ^ 36 - (l.self.offset + length l.self.ahead)
