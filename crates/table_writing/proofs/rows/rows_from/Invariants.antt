use Rattle.std.specs.Prelude.{All}
use Rattle.table_writing.specs.Answers.{row_at}
use Rattle.table_writing.specs.Counted.{HasArray, IsCountedOrNone}
use Rattle.table_writing.proofs.RowLemmas.{AreGathered}
use Rattle.table_writing.proofs.rows.rows_from.Given as goal

-- the rows of the days before the next one were gathered, and their values are counted
abbrev pub invariant-loop-number : goal.invariant-loop-number
invariant-loop-number g l = record {
  gathered : AreGathered (row_at l.office.register.history.events l.site) l.fn.from l.fn.to l.number l.rows.items;
  counted : HasArray l.office.register.history.events l.site → All IsCountedOrNone l.rows.items;
}
