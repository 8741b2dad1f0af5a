use Rattle.std.specs.Prelude.{◌≡◌, ◌+◌, take, length, count_by, not}
use Rattle.day_cells.specs.Days.{contains_day}
use Rattle.day_cells.specs.Spans.{with_days}
use Rattle.day_cells.specs.KeptDays.{Marks, is_pending_on, waiting_of}
use Rattle.day_cells.proofs.kept_days.DayCells.mark.Given as goal

abbrev pub invariant-loop-day : goal.invariant-loop-day
invariant-loop-day l = record {
  marks : Marks l.initial.self l.self (contains_day (take l.day-index l.changed)) l.edit;
  span : l.self.span ≡ with_days l.initial.self.span (take l.day-index l.changed);
  start : l.self.start ≡ l.initial.self.start;
  cells : length l.self.awaits ≡ length l.initial.self.awaits;
  count : length (waiting_of l.self) ≡ length (waiting_of l.initial.self) + count_by (λ d. not (is_pending_on l.initial.self d)) (take l.day-index l.changed);
}
