use Rattle.office.proofs.StopLemmas.{stopped_between, stopped_inside}
use Rattle.office.proofs.laws.an_opening_is_a_step.Goals as goal

pub returns-clause-between : goal.returns-clause-between
returns-clause-between c old register image left opened = stopped_between old register image left opened

pub returns-clause-inside : goal.returns-clause-inside
returns-clause-inside c old step new register image call is left opened = stopped_inside old step new register image call is left opened
