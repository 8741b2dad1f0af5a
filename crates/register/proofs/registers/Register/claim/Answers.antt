-- The first waiting day without a claim is the first such pending day, and its job is the same.
use Rattle.std.proofs.Common.{◌≡◌, subst, option_map}
use Rattle.register.specs.Asked.{job_at}
use Rattle.register.specs.Registered.{Registered, first_unclaimed}
use Rattle.register.proofs.FoundLemmas.{unclaimed_job}
use Rattle.register.proofs.registers.Register.claim.Goals as goal

pub returns-clause-job : goal.returns-clause-job
returns-clause-job c =
    subst (λ (r : Registered). c.in_ok-job.job ≡ option_map (job_at r.history.events) (first_unclaimed r)) c.self.view_is
    (unclaimed_job _ _ _ _ c.self.invariant c.stations_keep_to_their_ranges.ensures c.pending_days_stand_by_site.ensures.rising
    c.in_ok-job.job c.job_is_of_a_site.ensures c.in_ok-job.ensures.job)
