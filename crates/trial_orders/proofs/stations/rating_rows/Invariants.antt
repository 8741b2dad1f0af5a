use Rattle.std.proofs.Common.{◌≡◌, map}
use Rattle.std.specs.List.{range_with_len}
use Rattle.trial_orders.specs.Questions.{rating_row}
use Rattle.trial_orders.proofs.stations.rating_rows.Given as goal

-- the rows of the stages before this one are there
abbrev pub invariant-loop-feet : goal.invariant-loop-feet
invariant-loop-feet l = l.rows.items ≡ map rating_row (range_with_len 0 l.feet)
