-- The job of the first pending day is published.
use Rattle.std.proofs.Common.{◌≡◌, ◌+◌, sym, ap, ◌∙◌, length, Some, option_map}
use Rattle.std.specs.Prelude.{slice_get}
use Rattle.history.specs.After.{next_day}
use Rattle.history.specs.Awaited.{pending_days}
use Rattle.recompute.specs.Jobs.{DayJob}
use Rattle.register.specs.Asked.{job_at}
use Rattle.register.proofs.TurnLemmas.{next_due, next_history, next_claims, anyway}
use Rattle.register.proofs.registers.Register.publish_next.Goals as goal

pub publish_due-requires : goal.publish_due-requires
publish_due-requires g c =
    let old = c.args.self.now in
    let first : Some c.compute.result.job ≡ option_map (job_at old.history.events) (slice_get (pending_days old.history.events) 0) =
    ap (λ (j : DayJob). Some j) c.compute.ensures.job ∙ sym c.in-Some.is ∙ c.in_ok-job.ensures in
    next_due old.history.events c.compute.result.job first

pub returns-in-Some-clause-history : goal.returns-in-Some-clause-history
returns-in-Some-clause-history g c =
    let old = c.args.self.now in
    let first : Some c.compute.result.job ≡ option_map (job_at old.history.events) (slice_get (pending_days old.history.events) 0) =
    ap (λ (j : DayJob). Some j) c.compute.ensures.job ∙ sym c.in-Some.is ∙ c.in_ok-job.ensures in
    next_history old c.publish_due.new.self c.compute.result.job first c.publish_due.ensures.published

pub returns-in-Some-clause-claims : goal.returns-in-Some-clause-claims
returns-in-Some-clause-claims g c =
    let old = c.args.self.now in
    let first : Some c.compute.result.job ≡ option_map (job_at old.history.events) (slice_get (pending_days old.history.events) 0) =
    ap (λ (j : DayJob). Some j) c.compute.ensures.job ∙ sym c.in-Some.is ∙ c.in_ok-job.ensures in
    next_claims old c.publish_due.new.self c.compute.result.job first c.publish_due.ensures.claims

pub returns-in-Some-clause-pending : goal.returns-in-Some-clause-pending
returns-in-Some-clause-pending g c =
    let old = c.args.self.now in
    anyway (next_day old.history) (length (pending_days c.publish_due.new.self.history.events) + 1 ≡ length (pending_days old.history.events))
    c.publish_due.ensures.pending
