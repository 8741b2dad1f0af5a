use Rattle.std.specs.Prelude.{None, Some}
use Rattle.std.proofs.Common.{arith, subst}
use Rattle.recompute.specs.Jobs.{DayJob}
use Rattle.desk.specs.Serving.{IsPublished}
use Rattle.shared_office.specs.Passing.{fixed_in}
use Rattle.desk.proofs.DayByDayLemmas.{is_look, settlement_breaks, settlement_ends, settlement_more, settlement_starts}
use Rattle.desk.proofs.behind.settle_days.Goals as goal

pub loop-init : goal.loop-init
loop-init g c = record {
  next = tt;
  finite = tt;
  pass = c.requires;
  settling = settlement_starts (fixed_in c.args.lock.now) c.args.given;
  few = omega arith;
}

pub loop-preserved : goal.loop-preserved
loop-preserved g c =
    let fixed = fixed_in c.args.lock.now in let h = c.look-next.ensures.held in
    let k = is_look fixed c.loop.last h.0 c.look-next.result.1 c.in-Ok.looked (Some c.in-Some-job.job) h.2 c.in-Ok.is c.in-Some-job.is in
    record {
      next = tt;
      finite = tt;
      pass = c.publish_more-next.ensures.pass;
      settling =
          settlement_more fixed c.loop.last c.args.given c.loop.pass c.loop.published c.loop.invariant.settling c.look-next.result.0 h.0 h.1 c.in-Some-job.job
          (Some (c.site.result, c.day.result)) c.publish_more-next.result.0 c.publish_more-next.result.1 (cc (c.site.ensures, c.day.ensures, c.in-Some-job.job-is))
          (subst (λ (job : DayJob). IsPublished fixed c.look-next.result.0 job c.loop.published c.publish_more-next.result.0 c.publish_more-next.result.1)
          c.in-Some-job.job-is c.publish_more-next.ensures.held) k.0;
      few = c.publish_more-next.ensures.few;
    }

pub returns-in-None-job-clause-settled : goal.returns-in-None-job-clause-settled
returns-in-None-job-clause-settled g c =
    let fixed = fixed_in c.args.lock.now in let h = c.look-next.ensures.held in
    let k = is_look fixed c.loop.last h.0 c.look-next.result.1 c.in-Ok.looked None h.2 c.in-Ok.is c.in-None-job.is in
    settlement_ends fixed c.loop.last c.args.given c.loop.pass c.loop.published c.loop.invariant.settling c.look-next.result.0 h.0 h.1
    c.in-Ok.looked.pending k.0 k.1

pub returns-in-Err-clause-settled : goal.returns-in-Err-clause-settled
returns-in-Err-clause-settled g c =
    let h = c.look-next.ensures.held in
    settlement_breaks (fixed_in c.args.lock.now) c.loop.last c.args.given c.loop.pass c.loop.published c.loop.invariant.settling c.look-next.result.0 h.0 h.1
    c.in-Err.field-0
