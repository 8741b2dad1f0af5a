use Rattle.commands.proofs.JoinedLemmas.{ended_stays, found_stays, within_stays}
use Rattle.commands.proofs.laws.accepted_edits_stay_over_runs.Goals as goal

pub returns-clause-found : goal.returns-clause-found
returns-clause-found c = found_stays

pub returns-clause-ended : goal.returns-clause-ended
returns-clause-ended c = ended_stays

pub returns-clause-within : goal.returns-clause-within
returns-clause-within c = within_stays
