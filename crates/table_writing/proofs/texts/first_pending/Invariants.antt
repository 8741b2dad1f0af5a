use Rattle.std.specs.Prelude.{◌≡◌, drop}
use Rattle.table_writing.specs.Texts.{first_pending}
use Rattle.table_writing.proofs.texts.first_pending.Given as goal

-- the first among the rows that are left is the first of all
abbrev pub invariant-loop-row : goal.invariant-loop-row
invariant-loop-row l = first_pending (drop l.row-index l.rows) ≡ first_pending l.rows
