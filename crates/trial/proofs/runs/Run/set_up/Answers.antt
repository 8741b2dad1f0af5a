use Rattle.std.proofs.Common.{refl}
use Rattle.trial.proofs.FollowLemmas.{asks_same}
use Rattle.trial.proofs.runs.Run.set_up.Goals as goal
use Rattle.trial_orders.specs.Questions.{period}

pub returns-clause-follows : goal.returns-clause-follows
returns-clause-follows g c = (
  c.add.new.self,
  c.in_ok-add.ensures.follows,
  (
    c.rate.new.self,
    c.in_ok-rate.ensures.follows,
    (
      c.ask_of.new.self,
      asks_same c.rate.new.self c.ask_of.new.self c.args.station c.period.result period c.period.ensures.what c.in_ok-ask_of.ensures.follows,
      refl,
    ),
  ),
)
