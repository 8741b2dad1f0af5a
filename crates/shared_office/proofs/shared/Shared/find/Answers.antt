use Rattle.std.specs.Prelude.{Ok, Err, Option, Some}
use Rattle.std.proofs.Common.{◌∙◌, ap}
use Rattle.recompute.specs.Jobs.{DayJob}
use Rattle.shared_office.proofs.FindLemmas.{claimed}
use Rattle.shared_office.proofs.shared.Shared.find.Goals as goal

pub returns-in-Ok-Some-clause-step : goal.returns-in-Ok-Some-clause-step
returns-in-Ok-Some-clause-step g c =
    claimed c.args.self.now.office.register c.claim.result (Ok (Some c.in-Ok-Some.job)) c.claim.new.self.register
    (c.in-Ok-Some.is ∙ ap (λ (job : Option DayJob). Ok job) c.in-Ok-Some.field-0-is) c.claim.ensures.step

pub returns-in-Err-clause-step : goal.returns-in-Err-clause-step
returns-in-Err-clause-step g c =
    claimed c.args.self.now.office.register c.claim.result (Err c.in-Err.failed) c.claim.new.self.register c.in-Err.is c.claim.ensures.step
