-- The statuses that are kept tell what the days have against an edit.
use Rattle.std.specs.Prelude.{Some, option_map}
use Rattle.std.proofs.Common.{refl, ap, sym, ◌∙◌}
use Rattle.office_inputs.specs.Refusals.{refusal_for_objection}
use Rattle.office_inputs.specs.declared.refusals.Refusal.{Refusal}
use Rattle.register.proofs.SameStatusLemmas.{objection_seen}
use Rattle.register.proofs.registers.Register.status_refusal.Goals as goal

pub returns-in_err-objection : goal.returns-in_err-objection
returns-in_err-objection c =
    let told =
    objection_seen _ c.args.self.now c.self.view_is c.self.invariant.statuses_tell c.args.edit.now c.args.edit.now refl c.objection.result c.objection.ensures in
    rw c.from_residual.ensures (sym (ap (option_map refusal_for_objection) (sym told ∙ c.in_err-objection.was)))

pub returns : goal.returns
returns c =
    let told =
    objection_seen _ c.args.self.now c.self.view_is c.self.invariant.statuses_tell c.args.edit.now c.args.edit.now refl c.objection.result c.objection.ensures in
    ap (λ (r : Refusal). Some r) c.into.ensures ∙ sym (ap (option_map refusal_for_objection) (sym told ∙ c.in_ok-objection.was))
