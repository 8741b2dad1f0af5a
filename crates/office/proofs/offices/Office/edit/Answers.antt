use Rattle.std.proofs.Common.{◌≡◌, ◌≤◌, ◌+◌, false, IsSome, length, refl, ap, sym, subst, ◌∙◌}
use Rattle.history.specs.Accepted.{stations_at}
use Rattle.history.specs.Verdicts.{Refuses, verdict}
use Rattle.journal.specs.Moments.{LeavesOnly}
use Rattle.office.specs.Offices.{Officed}
use Rattle.office.specs.Stops.{IsLeftBetween}
use Rattle.office_inputs.specs.Touched.{interval}
use Rattle.office_inputs.specs.declared.refusals.Refusal.TheVariants.{JournalFault}
use Rattle.register.specs.Asked.{needs_days, verdict_told}
use Rattle.office.proofs.CountLemmas.{counts_refused}
use Rattle.office.proofs.EditLemmas.{leaves_unasked}
use Rattle.office.proofs.RefusedLemmas.{is_refused, lists_refused, not_a_fault}
use Rattle.office.proofs.offices.Office.edit.Goals as goal

-- where nothing is asked of the disk
pub returns-in-Ok-Repeated-clause-any_moment : goal.returns-in-Ok-Repeated-clause-any_moment
returns-in-Ok-Repeated-clause-any_moment g c =
    subst (λ (o : Officed g.row.D.Denot). IsSome (g.D.Disk.content o.disk) → LeavesOnly g.D.Disk o.disk o.disk (IsLeftBetween o.register.history o.register.history))
    c.self.view_is
    (leaves_unasked c.self.inside.register.history c.self.inside.doubt c.self.inside.journal c.self.invariant
    g.met.D.Disk.only_now c.self.inside.register.history refl)

pub returns-in-Ok-Refused-clause-any_moment : goal.returns-in-Ok-Refused-clause-any_moment
returns-in-Ok-Refused-clause-any_moment g c =
    subst (λ (o : Officed g.row.D.Denot). IsSome (g.D.Disk.content o.disk) → LeavesOnly g.D.Disk o.disk o.disk (IsLeftBetween o.register.history o.register.history))
    c.self.view_is
    (leaves_unasked c.self.inside.register.history c.self.inside.doubt c.self.inside.journal c.self.invariant
    g.met.D.Disk.only_now c.self.inside.register.history refl)

pub returns-in-Err-clause-any_moment : goal.returns-in-Err-clause-any_moment
returns-in-Err-clause-any_moment g c =
    subst (λ (o : Officed g.row.D.Denot). IsSome (g.D.Disk.content o.disk) → LeavesOnly g.D.Disk o.disk o.disk (IsLeftBetween o.register.history o.register.history))
    c.self.view_is
    (leaves_unasked c.self.inside.register.history c.self.inside.doubt c.self.inside.journal c.self.invariant
    g.met.D.Disk.only_now c.self.inside.register.history refl)

-- the steps of the search
pub returns-in-Ok-Repeated-clause-steps : goal.returns-in-Ok-Repeated-clause-steps
returns-in-Ok-Repeated-clause-steps g c =
    subst (λ (o : Officed g.row.D.Denot). c.judge.new.steps ≤ c.args.steps.now + length (interval (stations_at o.register.history.events) c.args.edit) + 9)
    c.self.view_is c.judge.ensures.steps

pub returns-in-Ok-Refused-clause-steps : goal.returns-in-Ok-Refused-clause-steps
returns-in-Ok-Refused-clause-steps g c =
    subst (λ (o : Officed g.row.D.Denot). c.judge.new.steps ≤ c.args.steps.now + length (interval (stations_at o.register.history.events) c.args.edit) + 9)
    c.self.view_is c.judge.ensures.steps

-- the history refuses it
pub returns-in-Ok-Refused-clause-edited : goal.returns-in-Ok-Refused-clause-edited
returns-in-Ok-Refused-clause-edited g c =
    let refused : verdict c.args.self.now.register.history c.args.edit ≡ Refuses c.in-Ok-Refused.refusal =
    subst (λ (o : Officed g.row.D.Denot). verdict o.register.history c.args.edit ≡ Refuses c.in-Ok-Refused.refusal) c.self.view_is
    (sym c.in-Ok-Refused.ensures.verdict ∙ ap verdict_told c.in-Ok-Refused.field-0-is) in
    is_refused c.args.self.now.register.history c.args.edit c.in-Ok-Refused.refusal refused

pub returns-in-Ok-Refused-clause-step : goal.returns-in-Ok-Refused-clause-step
returns-in-Ok-Refused-clause-step g c = (returns-in-Ok-Refused-clause-edited g c, λ site day. refl)

pub returns-in-Ok-Refused-clause-calls : goal.returns-in-Ok-Refused-clause-calls
returns-in-Ok-Refused-clause-calls g c =
    let refused : verdict c.args.self.now.register.history c.args.edit ≡ Refuses c.in-Ok-Refused.refusal =
    subst (λ (o : Officed g.row.D.Denot). verdict o.register.history c.args.edit ≡ Refuses c.in-Ok-Refused.refusal) c.self.view_is
    (sym c.in-Ok-Refused.ensures.verdict ∙ ap verdict_told c.in-Ok-Refused.field-0-is) in
    lists_refused (g.D.Disk.content c.args.self.now.disk) (g.D.Disk.calls c.args.self.now.disk) (g.D.Disk.faults c.args.self.now.disk)
    c.args.self.now.register.history c.args.edit c.args.self.now.register.history c.in-Ok-Refused.refusal refused

pub returns-in-Ok-Refused-clause-counts : goal.returns-in-Ok-Refused-clause-counts
returns-in-Ok-Refused-clause-counts g c =
    let refused : verdict c.args.self.now.register.history c.args.edit ≡ Refuses c.in-Ok-Refused.refusal =
    subst (λ (o : Officed g.row.D.Denot). verdict o.register.history c.args.edit ≡ Refuses c.in-Ok-Refused.refusal) c.self.view_is
    (sym c.in-Ok-Refused.ensures.verdict ∙ ap verdict_told c.in-Ok-Refused.field-0-is) in
    counts_refused c.args.self.now.register.history c.args.edit c.in-Ok-Refused.refusal (g.D.Disk.faults c.args.self.now.disk) refused

pub returns-in-Ok-Refused-clause-cause : goal.returns-in-Ok-Refused-clause-cause
returns-in-Ok-Refused-clause-cause g c in_doubt is =
    let refused : verdict c.args.self.now.register.history c.args.edit ≡ Refuses c.in-Ok-Refused.refusal =
    subst (λ (o : Officed g.row.D.Denot). verdict o.register.history c.args.edit ≡ Refuses c.in-Ok-Refused.refusal) c.self.view_is
    (sym c.in-Ok-Refused.ensures.verdict ∙ ap verdict_told c.in-Ok-Refused.field-0-is) in
    let fault : c.in-Ok-Refused.refusal ≡ JournalFault in_doubt = cc in
    absurd (not_a_fault c.args.self.now.register.history c.args.edit c.in-Ok-Refused.refusal in_doubt refused fault)

pub returns-in-Ok-Accepted-clause-steps : goal.returns-in-Ok-Accepted-clause-steps
returns-in-Ok-Accepted-clause-steps g c =
    subst (λ (o : Officed g.row.D.Denot). c.judge.new.steps ≤ c.args.steps.now + length (interval (stations_at o.register.history.events) c.args.edit) + 9)
    c.self.view_is c.judge.ensures.steps

pub returns-in-Err-clause-steps : goal.returns-in-Err-clause-steps
returns-in-Err-clause-steps g c =
    subst (λ (o : Officed g.row.D.Denot). c.judge.new.steps ≤ c.args.steps.now + length (interval (stations_at o.register.history.events) c.args.edit) + 9)
    c.self.view_is c.judge.ensures.steps

pub returns-in-Err-clause-no_step : goal.returns-in-Err-clause-no_step
returns-in-Err-clause-no_step g c none =
    c.judge.ensures.no_step (subst (λ (o : Officed g.row.D.Denot). needs_days o.register.history c.args.edit ≡ false) (sym c.self.view_is) none)
