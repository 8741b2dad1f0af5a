-- The job of a pending day is published, so that its claim is no longer out, as before.
use Rattle.std.proofs.Common.{◌≡◌, not, sym, subst, ap, ◌∙◌, Option, Some, option_map, IfSome}
use Rattle.history.specs.Awaited.{SiteDay}
use Rattle.history.specs.Events.{History}
use Rattle.recompute.specs.Jobs.{DayJob}
use Rattle.register.specs.Asked.{job_at, outcome_at}
use Rattle.register.specs.Registered.{TakesClaim, first_unclaimed, is_out}
use Rattle.register.proofs.TurnLemmas.{turned, turn_history, turn_claims}
use Rattle.register.proofs.registers.Register.turn_counted.Goals as goal

pub publish_due-requires : goal.publish_due-requires
publish_due-requires g c =
    let old = c.args.self.now in
    let first : Some c.compute.result.job ≡ option_map (job_at old.history.events) (first_unclaimed old) =
    ap (λ (j : DayJob). Some j) c.compute.ensures.job ∙ sym c.in-Some.is ∙ c.in_ok-job.ensures.job in
    let turn = (turned old.history.events (λ (d : SiteDay). not (is_out old d.site d.day)) c.compute.result.job first).1 in
    ap (λ (h : History). outcome_at h.events c.compute.result.job) c.in_ok-job.ensures.history ∙ turn.due

pub returns-clause-history : goal.returns-clause-history
returns-clause-history g c =
    let old = c.args.self.now in
    let first : Some c.compute.result.job ≡ option_map (job_at old.history.events) (first_unclaimed old) =
    ap (λ (j : DayJob). Some j) c.compute.ensures.job ∙ sym c.in-Some.is ∙ c.in_ok-job.ensures.job in
    turn_history old c.claim.new.self c.publish_due.new.self (λ (d : SiteDay). not (is_out old d.site d.day)) c.compute.result.job
    c.in_ok-job.ensures.history first c.publish_due.ensures.published

pub returns-clause-claims : goal.returns-clause-claims
returns-clause-claims g c =
    let old = c.args.self.now in
    let first : Some c.compute.result.job ≡ option_map (job_at old.history.events) (first_unclaimed old) =
    ap (λ (j : DayJob). Some j) c.compute.ensures.job ∙ sym c.in-Some.is ∙ c.in_ok-job.ensures.job in
    let turn = turned old.history.events (λ (d : SiteDay). not (is_out old d.site d.day)) c.compute.result.job first in
    turn_claims old c.claim.new.self c.publish_due.new.self c.compute.result.job turn.0 turn.1.found turn.1.job_is
    (subst (TakesClaim old c.claim.new.self) (sym c.compute.ensures.job)
    (subst (λ (o : Option DayJob). IfSome o (TakesClaim old c.claim.new.self)) c.in-Some.is c.in_ok-job.ensures.claims))
    c.publish_due.ensures.claims
