use Rattle.std.proofs.Common.{sym, ◌∙◌}
use Rattle.day_cells.proofs.KeptLemmas.{waiting_count}
use Rattle.day_cells.proofs.kept_days.DayCells.pending.Goals as goal

pub returns-clause-count : goal.returns-clause-count
returns-clause-count c = rw (← c.self.view_is) (c.self.invariant.counted ∙ sym (waiting_count _ c.self.invariant.columns))
