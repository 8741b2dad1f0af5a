use Rattle.std.proofs.Common.{◌≡◌, ◌≤ℤ◌, pos, ◌+ℤ◌}
use Rattle.approval.specs.Kept.{day_place, standing_at}
use Rattle.approval.specs.Questions.{holds}
use Rattle.approval.specs.Statuses.{first_day_of}
use Rattle.rising.specs.Lists.{from}
use Rattle.approval.proofs.day_lists.first_in_span.Given as goal

abbrev pub invariant-loop-number : goal.invariant-loop-number
invariant-loop-number l = record {
  low : l.fn.from ≤ℤ l.number;
  high : l.number ≤ℤ (l.fn.to +ℤ pos 1);
  rest : l.rest ≡ from day_place l.number l.list;
  none : first_day_of (λ day. holds l.question (standing_at l.list day).status) l.fn.from l.fn.to
      ≡ first_day_of (λ day. holds l.question (standing_at l.list day).status) l.number l.fn.to;
}
