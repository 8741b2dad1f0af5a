-- A rating's table gives none but stages.
use Rattle.rating_tables.proofs.RatedRangeLemmas.{stage-IsStage}
use Rattle.measurements.proofs.measuring.stage_of.Goals as goal

pub returns-clause-range : goal.returns-clause-range
returns-clause-range c = stage-IsStage c.args.table.now c.args.discharge c.stage_of.result c.requires.ranges c.stage_of.ensures.cases
