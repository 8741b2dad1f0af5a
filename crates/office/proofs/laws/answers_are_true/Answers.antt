use Rattle.office.proofs.CourseLemmas.{answer_of_history, computed_from_scratch, not_kept_where_missing, pending_names_last}
use Rattle.office.proofs.laws.answers_are_true.Goals as goal

pub returns-clause-of_history : goal.returns-clause-of_history
returns-clause-of_history c old new before after site day told goes = answer_of_history old new before after site day told goes

pub returns-clause-computed : goal.returns-clause-computed
returns-clause-computed c old new before after site day value goes = computed_from_scratch old new before after site day value goes

pub returns-clause-pending : goal.returns-clause-pending
returns-clause-pending c old new before after site day number goes = pending_names_last old new before after site day number goes

pub returns-clause-no_station : goal.returns-clause-no_station
returns-clause-no_station c old new before after site day goes = not_kept_where_missing old new before after site day goes
