use Rattle.std.proofs.Common.{sym}
use Rattle.records.proofs.SheetLemmas.{none_left, next_left}
use Rattle.records.proofs.sheet_drafts.are_sheets.Goals as goal

pub returns-in_default : goal.returns-in_default
returns-in_default c = (
  λ e. absurd cc,
  λ are. absurd (none_left c.args.count c.loop.counter c.args.bytes.now c.loop.rest.now c.loop-test.true c.loop.invariant (sym c.in_default.ensures) are),
)

pub loop-preserved : goal.loop-preserved
loop-preserved c =
    next_left c.args.count c.loop.counter c.args.bytes.now c.loop.rest.now c.in-Some.field-0-0.now c.in-Some.behind.now c.loop-test.true c.loop.invariant (sym c.in-Some.ensures)
