use Rattle.commands.proofs.TruthLemmas.{run_tells_day, run_tells_days}
use Rattle.commands.proofs.laws.a_run_tells_days_truly.Goals as goal

pub returns-clause-day : goal.returns-clause-day
returns-clause-day c = λ run old before behind message told more reply site day same none messages replies long asked.
    run_tells_day run old before behind message told more reply same none messages replies long site day asked

pub returns-clause-table : goal.returns-clause-table
returns-clause-table c = λ run old before behind message told more reply site from to same none messages replies long asked.
    run_tells_days run old before behind message told more reply same none messages replies long site from to asked
