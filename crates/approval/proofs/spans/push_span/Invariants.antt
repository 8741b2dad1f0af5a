use Rattle.std.proofs.Common.{◌≡◌, ◌+◌, ◌≤ℤ◌, ◌++◌, vec_len, vec_capacity, pos, ◌+ℤ◌}
use Rattle.approval.specs.Kept.{span_length, standings_from}
use Rattle.approval.proofs.spans.push_span.Given as goal

abbrev pub invariant-loop-number : goal.invariant-loop-number
invariant-loop-number l = record {
  low : l.fn.from ≤ℤ l.number;
  high : l.number ≤ℤ (l.fn.to +ℤ pos 1);
  items : l.list.items ++ standings_from l.number (span_length l.number l.fn.to) l.status l.edit ≡ l.fn.list.items ++ standings_from l.fn.from (span_length l.fn.from l.fn.to) l.status l.edit;
  len : vec_len l.list + span_length l.number l.fn.to ≡ vec_len l.fn.list + span_length l.fn.from l.fn.to;
  capacity : vec_capacity l.list ≡ vec_capacity l.fn.list;
}
