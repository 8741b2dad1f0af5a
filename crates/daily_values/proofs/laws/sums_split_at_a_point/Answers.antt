use Rattle.daily_values.proofs.LawLemmas.{areas_split, seconds_split}
use Rattle.daily_values.proofs.laws.sums_split_at_a_point.Goals as goal

pub returns-clause-area : goal.returns-clause-area
returns-clause-area c = areas_split

pub returns-clause-seconds : goal.returns-clause-seconds
returns-clause-seconds c = seconds_split
