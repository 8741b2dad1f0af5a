use Rattle.std.specs.Prelude.{◌≡◌, ◌↔◌, true, cond, Some}
use Rattle.std.proofs.Common.{ap, sym, ◌∙◌}
use Rattle.day_inputs.specs.Equality.{same_inputs}
use Rattle.office_inputs.specs.Kept.{in_force}
use Rattle.office_inputs.specs.Stations.{inputs_of_day}
use Rattle.recompute.specs.Cells.{awaited_in}
use Rattle.recompute.specs.Jobs.{outcome_of}
use Rattle.recompute.specs.declared.jobs.Publish.TheVariants.{Foreign, Published}
use Rattle.recompute.proofs.OutcomeLemmas.{outcome_same, told_false, told_true}
use Rattle.recompute.proofs.cells.Cells.outcome.Goals as goal
use Rattle.recompute.proofs.cells.Cells.outcome.Goals.{After-is_day_inputs}

module _ (c : After-is_day_inputs) where
  -- the day awaits an edit, which is the job's
  awaited : awaited_in c.args.self.now c.args.job.now.site c.args.job.now.day ≡ Some c.in-Some.edit
  awaited =
      let site = c.site-site.ensures in
      let day = c.day-day.ensures in
      sym (rw (site, day) at c.awaited.ensures) ∙ c.in-Some.is

  of_the_job : c.in-Some.edit ≡ c.args.job.now.awaits
  of_the_job = c.if-edit-awaits.false ∙ c.awaits.ensures

  -- so what becomes of the publication hangs on the inputs alone
  by_inputs : outcome_of c.args.self.now (in_force c.args.inputs.now) c.args.job.now
      ≡ cond (same_inputs c.args.job.now.inputs (inputs_of_day (in_force c.args.inputs.now) c.args.job.now.site c.args.job.now.day)) Published Foreign
  by_inputs =
      let job = c.args.job.now in
      outcome_same (awaited_in c.args.self.now job.site job.day) c.in-Some.edit job.awaits (same_inputs job.inputs (inputs_of_day (in_force c.args.inputs.now) job.site job.day)) awaited of_the_job

  -- the test tells whether the job's inputs are those in force
  told : c.is_day_inputs.result ≡ true ↔ c.args.job.now.inputs ≡ inputs_of_day (in_force c.args.inputs.now) c.args.job.now.site c.args.job.now.day
  told =
      let site = c.site-site.ensures in
      let day = c.day-day.ensures in
      let inputs = c.inputs.ensures.inputs in
      rw (site, day, inputs) at c.is_day_inputs.ensures

pub returns-then-not-is_day_inputs-clause-outcome : goal.returns-then-not-is_day_inputs-clause-outcome
returns-then-not-is_day_inputs-clause-outcome c =
    let w = (goal.at.returns-then-not-is_day_inputs-clause-outcome c).After-is_day_inputs in
    sym (by_inputs w ∙ ap (λ b. cond b Published Foreign) (told_false _ _ c.is_day_inputs.result (told w).1 c.if-not-is_day_inputs.true))

pub returns-clause-outcome : goal.returns-clause-outcome
returns-clause-outcome c =
    let w = (goal.at.returns-clause-outcome c).After-is_day_inputs in
    sym (by_inputs w ∙ ap (λ b. cond b Published Foreign) (told_true _ _ ((told w).0 c.if-not-is_day_inputs.false)))

pub returns-clause-awaits : goal.returns-clause-awaits
returns-clause-awaits c e =
    let w = (goal.at.returns-clause-awaits c).After-is_day_inputs in
    awaited w ∙ ap (λ n. Some n) (of_the_job w)

pub returns-clause-inputs : goal.returns-clause-inputs
returns-clause-inputs c e =
    let w = (goal.at.returns-clause-inputs c).After-is_day_inputs in
    (told w).0 c.if-not-is_day_inputs.false
