-- The first waiting day after a day is the first such pending day, and its job is the same.
use Rattle.std.proofs.Common.{◌≡◌, subst, option_map}
use Rattle.history.specs.Awaited.{pending_days}
use Rattle.register.specs.Asked.{job_at, next_after}
use Rattle.register.specs.Registered.{Registered}
use Rattle.register.proofs.FoundLemmas.{next_job}
use Rattle.register.proofs.registers.Register.after.Goals as goal

pub returns : goal.returns
returns c =
    subst (λ (r : Registered). c.in_ok-job.job ≡ option_map (job_at r.history.events) (next_after c.args.last (pending_days r.history.events))) c.self.view_is
    (next_job _ _ _ _ c.self.invariant c.stations_keep_to_their_ranges.ensures c.pending_days_stand_by_site.ensures.rising
    c.in_ok-job.job c.job_is_of_a_site.ensures c.args.last c.in_ok-job.ensures.first c.in_ok-job.ensures.behind)
