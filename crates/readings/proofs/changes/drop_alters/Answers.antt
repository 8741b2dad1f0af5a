-- One of the span is used.
use Rattle.readings.specs.Halves.{joined}
use Rattle.readings.proofs.Altering.{drop_told}
use Rattle.readings.proofs.changes.drop_alters.Goals as goal

pub returns : goal.returns
returns c =
    drop_told c.args.from c.args.to (joined c.args.kept.now) (joined c.span.result) c.first_used.result _ c.is_some.ensures c.first_used.ensures c.span.ensures
