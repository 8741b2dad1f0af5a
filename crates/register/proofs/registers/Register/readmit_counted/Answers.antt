-- What refuses a record at once; where there was no memory for its changed days, nothing does.
use Rattle.std.specs.Prelude.{◌≡◌, IfErr, IsErrAnd, Result, Ok, Err, None}
use Rattle.std.proofs.Common.{ap, sym, subst, ◌∙◌}
use Rattle.edits.specs.declared.content.Edit.{Edit}
use Rattle.history.specs.Events.{History}
use Rattle.register.specs.Asked.{IsNotReadmitted, refused_at_once}
use Rattle.register.specs.declared.judged.NotReadmitted.{NotReadmitted}
use Rattle.register.specs.declared.judged.NotReadmitted.TheVariants as opening
use Rattle.register.proofs.AdmittedLemmas.{is_refused_at_once, not_by_stations_at_once}
use Rattle.register.proofs.JudgedLemmas.{not_within}
use Rattle.register.proofs.registers.Register.readmit_counted.Goals as goal

without_memory : {T : Type 0} (r : Result T NotReadmitted) (h : History) (edit : Edit) → IsErrAnd r (λ told. told ≡ opening.NoMemory) → refused_at_once h edit ≡ None
    → IfErr r (IsNotReadmitted h edit)
without_memory (Ok x) h edit e n = tt
without_memory (Err told) h edit e n = subst (IsNotReadmitted h edit) (sym e) n

pub returns-in-Some-clause-refused : goal.returns-in-Some-clause-refused
returns-in-Some-clause-refused g c =
    is_refused_at_once c.args.self.now.history c.args.piece.edit c.in-Some.refusal
    (ap (refused_at_once c.args.self.now.history) (sym c.edit-edit.ensures) ∙ sym c.refusal_at_once.ensures ∙ c.in-Some.is)

pub reach_at-requires-clause-accepted : goal.reach_at-requires-clause-accepted
reach_at-requires-clause-accepted g c =
    not_within _ c.args.self.now c.self.view_is c.self.invariant.stations c.edit-edit.result.now
    (not_by_stations_at_once c.args.self.now.history c.edit-edit.result.now (sym c.refusal_at_once.ensures ∙ c.in_default.is))

pub returns-in_err-days-clause-refused : goal.returns-in_err-days-clause-refused
returns-in_err-days-clause-refused g c =
    without_memory c.from_residual.result c.args.self.now.history c.args.piece.edit c.from_residual.ensures.1
    (ap (refused_at_once c.args.self.now.history) (sym c.edit-edit.ensures) ∙ sym c.refusal_at_once.ensures ∙ c.in_default.is)
