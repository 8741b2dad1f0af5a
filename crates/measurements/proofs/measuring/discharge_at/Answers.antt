-- A rating's table gives none but discharges.
use Rattle.rating_tables.proofs.RatedRangeLemmas.{rated-IsDischarge}
use Rattle.measurements.proofs.measuring.discharge_at.Goals as goal

pub returns-in-Value-clause-range : goal.returns-in-Value-clause-range
returns-in-Value-clause-range c =
    rated-IsDischarge c.args.table.now c.args.stage c.in-Value.discharge c.requires.ranges c.in-Value.ensures.cases
