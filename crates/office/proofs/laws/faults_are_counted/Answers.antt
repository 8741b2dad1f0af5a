use Rattle.office.proofs.CountLemmas.{counted_steps, opened_counted}
use Rattle.office.proofs.laws.faults_are_counted.Goals as goal

pub returns-clause-steps : goal.returns-clause-steps
returns-clause-steps c old new steps before now goes counted = counted_steps old before steps new now goes counted

pub returns-clause-opened : goal.returns-clause-opened
returns-clause-opened c = opened_counted
