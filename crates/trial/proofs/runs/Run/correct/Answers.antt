use Rattle.std.proofs.Common.{refl}
use Rattle.trial.proofs.FollowLemmas.{asks_same}
use Rattle.trial.proofs.runs.Run.correct.Goals as goal
use Rattle.trial_orders.specs.Questions.{first_correction, second_correction, shift}

pub returns-clause-follows : goal.returns-clause-follows
returns-clause-follows g c = (
  c.ask_of.new.self,
  asks_same c.args.self.now c.ask_of.new.self c.args.station c.first_correction.result first_correction c.first_correction.ensures.what
      c.in_ok-ask_of.ensures.follows,
  (
    c.ask_of-2.new.self,
    asks_same c.ask_of.new.self c.ask_of-2.new.self c.args.station c.second_correction.result second_correction c.second_correction.ensures.what
        c.in_ok-ask_of-2.ensures.follows,
    (
      c.ask_of-3.new.self,
      asks_same c.ask_of-2.new.self c.ask_of-3.new.self c.args.station c.shift.result shift c.shift.ensures.what
          c.in_ok-ask_of-3.ensures.follows,
      refl,
    ),
  ),
)
