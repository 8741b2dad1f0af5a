use Rattle.std.specs.Prelude.{Ok, Err, None, Option, Some}
use Rattle.std.proofs.Common.{◌∙◌, ap, is_some, refl, sym}
use Rattle.office.specs.Steps.{AClaim}
use Rattle.recompute.specs.Jobs.{DayJob}
use Rattle.shared_office.proofs.FindLemmas.{finds_drained, looked, no_claim}
use Rattle.shared_office.proofs.shared.Shared.find_behind_claims.Goals as goal

pub returns-in_default-clause-step : goal.returns-in_default-clause-step
returns-in_default-clause-step g c = (AClaim (Ok None), refl, no_claim c.args.self.now.office.register c.requires)

pub returns-in-Ok-Some-clause-step : goal.returns-in-Ok-Some-clause-step
returns-in-Ok-Some-clause-step g c =
    looked c.args.self.now.office.register c.after.result (Ok (Some c.in-Ok-Some.job))
    (c.in-Ok-Some.is ∙ ap (λ (job : Option DayJob). Ok job) c.in-Ok-Some.field-0-is) c.after.ensures.step

pub returns-in-Ok-None-clause-found : goal.returns-in-Ok-None-clause-found
returns-in-Ok-None-clause-found g c = (
  ap is_some c.in-Some.is,
  finds_drained c.args.self.now.office.register (sym c.in-Ok-None.field-0-is ∙ c.in-Ok-None.ensures.job),
  λ site day. refl,
)

pub returns-in-Ok-None-clause-step : goal.returns-in-Ok-None-clause-step
returns-in-Ok-None-clause-step g c =
    looked c.args.self.now.office.register c.after.result (Ok None) (c.in-Ok-None.is ∙ ap (λ (job : Option DayJob). Ok job) c.in-Ok-None.field-0-is)
    c.after.ensures.step

pub returns-in-Err-clause-step : goal.returns-in-Err-clause-step
returns-in-Err-clause-step g c = looked c.args.self.now.office.register c.after.result (Err c.in-Err.failed) c.in-Err.is c.after.ensures.step
