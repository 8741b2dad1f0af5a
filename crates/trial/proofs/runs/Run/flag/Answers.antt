use Rattle.std.proofs.Common.{refl}
use Rattle.trial.proofs.FollowLemmas.{asks_same}
use Rattle.trial.proofs.runs.Run.flag.Goals as goal
use Rattle.trial_orders.specs.Questions.{flagging, approved_instant, open_instant}

pub returns-clause-follows : goal.returns-clause-follows
returns-clause-follows g c = (
  c.ask_of.new.self,
  asks_same c.args.self.now c.ask_of.new.self c.args.station c.flagging_approved.result (flagging approved_instant) c.flagging_approved.ensures.what
      c.in_ok-ask_of.ensures.follows,
  (
    c.ask_of-2.new.self,
    asks_same c.ask_of.new.self c.ask_of-2.new.self c.args.station c.flagging_open.result (flagging open_instant) c.flagging_open.ensures.what
        c.in_ok-ask_of-2.ensures.follows,
    refl,
  ),
)
