use Rattle.ratings.proofs.PeriodLawLemmas.{one_in_force, at_share, share_at}
use Rattle.ratings.proofs.laws.one_period_is_in_force.Goals as goal

pub returns-clause-one : goal.returns-clause-one
returns-clause-one c = one_in_force

pub returns-clause-share : goal.returns-clause-share
returns-clause-share c = λ p q h k. (at_share p q h k, λ w. share_at p q w.0 w.1 w.2)
