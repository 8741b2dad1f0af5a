use Rattle.serving.proofs.FailingLemmas.{few_fail}
use Rattle.serving.proofs.DrainLemmas.{drained_to_the_end}
use Rattle.serving.proofs.CrewLemmas.{crew_of}
use Rattle.serving.proofs.TakingLemmas.{all_later, served_later}
use Rattle.serving.proofs.laws.what_is_served_stays_served.Goals as goal

pub returns-clause-one : goal.returns-clause-one
returns-clause-one c = λ fixed came went start list later places on served. served_later fixed came went start list later places on served

pub returns-clause-all : goal.returns-clause-all
returns-clause-all c = λ fixed start list later back given connections on served. all_later fixed start list later back 1 given connections on served
