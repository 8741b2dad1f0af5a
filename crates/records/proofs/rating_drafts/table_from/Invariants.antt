use Rattle.std.proofs.Common.{◌≡◌, take}
use Rattle.records.specs.Parsing.{rows_in}
use Rattle.records.proofs.rating_drafts.table_from.Given as goal

abbrev pub invariant-loop-row : goal.invariant-loop-row
invariant-loop-row l = l.kept.items ≡ rows_in (take l.row-index l.rows)
