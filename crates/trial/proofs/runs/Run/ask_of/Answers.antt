use Rattle.std.proofs.Common.{codes, refl}
use Rattle.trial.proofs.FollowLemmas.{ask_same, on_ok}
use Rattle.trial.proofs.runs.Run.ask_of.Goals as goal
use Rattle.trial.specs.Trials.{Follows}
use Rattle.trial_orders.specs.Orders.{Ask, trial_asks}
use Rattle.trial_orders.specs.Questions.{site_of}

pub returns-clause-follows : goal.returns-clause-follows
returns-clause-follows g c =
    on_ok c.ask.result (Follows c.args.self.now (Ask c.sender.result c.site_of.result c.args.what) c.ask.new.self)
    (Follows c.args.self.now (trial_asks c.args.station c.args.what) c.ask.new.self)
    (λ (f : Follows c.args.self.now (Ask c.sender.result c.site_of.result c.args.what) c.ask.new.self).
    ask_same c.args.self.now c.ask.new.self c.sender.result (codes "TR") c.site_of.result (site_of c.args.station) c.args.what c.args.what
    c.sender.ensures c.site_of.ensures refl f)
    c.ask.ensures.follows
