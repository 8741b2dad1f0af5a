use Rattle.desk.proofs.TruthLemmas.{day_is_true, days_are_true}
use Rattle.desk.proofs.laws.days_are_told_truly.Goals as goal

pub returns-clause-day : goal.returns-clause-day
returns-clause-day c = λ old new steps before behind message told more reply site day same is asked.
    day_is_true old new steps before behind message told more reply same is site day asked

pub returns-clause-table : goal.returns-clause-table
returns-clause-table c = λ old new steps before behind message told more reply site from to same is asked.
    days_are_true old new steps before behind message told more reply same is site from to asked
