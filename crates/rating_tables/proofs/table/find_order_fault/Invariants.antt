-- What is left to find is what the rows from the last one passed on have.
use Rattle.std.proofs.Common.{◌≡◌, ◌-◌, ◌<◌, drop}
use Rattle.rating_tables.specs.Table.{order_fault}
use Rattle.rating_tables.proofs.table.find_order_fault.Given as goal

abbrev pub invariant-loop-i : goal.invariant-loop-i
invariant-loop-i l = (0 < l.i) × (order_fault 0 l.rows ≡ order_fault (l.i - 1) (drop (l.i - 1) l.rows))
