use Rattle.std.proofs.Common.{◌≡◌, ◌≤◌, ◌+◌, ◌-◌, length}
use Rattle.wire.specs.declared.limits.TheConstants.{BLOCK_BYTES}
use Rattle.whole_inputs.specs.Inputs.{IsTaken}
use Rattle.whole_inputs.proofs.inputs.read_whole.Given as goal

-- the text is what was taken so far, at most one byte more than an input may have
abbrev pub invariant-loop-text : goal.invariant-loop-text
invariant-loop-text g l = record {
  taken : IsTaken (g.S.Source.left l.fn.source) l.text (g.S.Source.left l.source);
  few : length l.text ≤ l.fn.most + 1;
  full : length l.block.items ≡ BLOCK_BYTES;
  counted : g.S.Source.faults l.fn.source ≤ g.S.Source.faults l.source;
}

abbrev pub decreases-loop-text : goal.decreases-loop-text
decreases-loop-text g l = l.fn.most + 2 - length l.text
