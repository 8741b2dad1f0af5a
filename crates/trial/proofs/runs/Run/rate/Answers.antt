use Rattle.trial.proofs.FollowLemmas.{asks_same}
use Rattle.trial.proofs.runs.Run.rate.Goals as goal
use Rattle.trial_orders.specs.Questions.{rating}

pub returns-clause-follows : goal.returns-clause-follows
returns-clause-follows g c =
    asks_same c.args.self.now c.ask_of.new.self c.args.station c.in_ok-what.what rating c.in_ok-what.ensures.what c.in_ok-ask_of.ensures.follows
