use Rattle.fixed_units.proofs.DecimalLemmas.{whole-Some, fraction-Some, whole-None, fraction-None}
use Rattle.fixed_units.proofs.decimals.parts.Goals as goal

pub returns-in-Some-clause-whole : goal.returns-in-Some-clause-whole
returns-in-Some-clause-whole c = whole-Some c.args.text.now c.in-Some.point c.in-Some.ensures

pub returns-in-Some-clause-fraction : goal.returns-in-Some-clause-fraction
returns-in-Some-clause-fraction c = fraction-Some c.args.text.now c.in-Some.point c.in-Some.ensures

pub returns-in-None-clause-whole : goal.returns-in-None-clause-whole
returns-in-None-clause-whole c = whole-None c.args.text.now c.in-None.ensures

pub returns-in-None-clause-fraction : goal.returns-in-None-clause-fraction
returns-in-None-clause-fraction c = fraction-None c.args.text.now c.in-None.ensures
