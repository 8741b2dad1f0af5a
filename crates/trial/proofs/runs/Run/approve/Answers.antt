use Rattle.std.proofs.Common.{refl, codes}
use Rattle.trial.proofs.FollowLemmas.{ask_same}
use Rattle.trial.proofs.runs.Run.approve.Goals as goal
use Rattle.trial_orders.specs.Questions.{site_of, review, approval}

pub returns-clause-follows : goal.returns-clause-follows
returns-clause-follows g c = (
  c.ask.new.self,
  ask_same c.args.self.now c.ask.new.self c.reviewer.result (codes "RA") c.site_of.result (site_of c.args.station) c.review.result review
      c.reviewer.ensures c.site_of.ensures c.review.ensures.what c.in_ok-ask.ensures.follows,
  (
    c.ask-2.new.self,
    ask_same c.ask.new.self c.ask-2.new.self c.approver.result (codes "AB") c.site_of-2.result (site_of c.args.station) c.approval.result approval
        c.approver.ensures c.site_of-2.ensures c.approval.ensures.what c.in_ok-ask-2.ensures.follows,
    refl,
  ),
)
