-- The office is opened with one edit more, and no claim is out.
use Rattle.std.specs.Prelude.{◌≡◌, ◌+◌, IfErr, IsErrAnd, Result, Ok, Err, None}
use Rattle.std.proofs.Common.{ap, sym, subst, ◌∙◌}
use Rattle.edits.specs.declared.content.Edit.{Edit}
use Rattle.history.specs.After.{after_record}
use Rattle.history.specs.Events.{History}
use Rattle.history.specs.Legal.{IsLegal}
use Rattle.history.specs.Verdicts.{refused_by_stations}
use Rattle.register.specs.Asked.{IsNotReadmitted, refused_at_once}
use Rattle.register.specs.Registered.{Registered}
use Rattle.register.specs.declared.judged.NotReadmitted.{NotReadmitted}
use Rattle.register.specs.declared.judged.NotReadmitted.TheVariants as opening
use Rattle.register.proofs.AdmittedLemmas.{may_be_kept, new_to, none_at_once}
use Rattle.register.proofs.OpenedLemmas.{legal_opened, not_out}
use Rattle.register.proofs.registers.Register.readmit_unlocked.Goals as goal

pub take_in-requires-clause-legal : goal.take_in-requires-clause-legal
take_in-requires-clause-legal c =
    let h = c.args.self.now.history in
    let same = c.in_ok-bytes.ensures.history in
    let legal : IsLegal h = subst IsLegal same (subst (λ (r : Registered). IsLegal r.history) c.self.view_is c.self.invariant.legal) in
    let opened : c.self.inside.opened ≡ h.opened = ap (λ (r : Registered). r.history.opened) c.self.view_is ∙ ap (λ (x : History). x.opened) same in
    subst (λ (x : History). IsLegal (after_record (c.self.inside.opened + 1) x c.args.piece)) (sym same)
    (subst (λ n. IsLegal (after_record (n + 1) h c.args.piece)) (sym opened)
    (legal_opened h c.args.piece c.requires.opening legal (may_be_kept h c.args.piece c.sheets.ensures.lawful c.requires.holds c.requires.lawful)))

without_memory : {T : Type 0} (r : Result T NotReadmitted) (h : History) (edit : Edit) → IsErrAnd r (λ told. told ≡ opening.NoMemory) → refused_at_once h edit ≡ None
    → IfErr r (IsNotReadmitted h edit)
without_memory (Ok x) h edit e n = tt
without_memory (Err told) h edit e n = subst (IsNotReadmitted h edit) (sym e) n

pub prepare_counted-requires-clause-new : goal.prepare_counted-requires-clause-new
prepare_counted-requires-clause-new c = new_to c.args.self.now.history c.args.piece.edit c.requires.lawful

pub returns-in_err-bytes-clause-refused : goal.returns-in_err-bytes-clause-refused
returns-in_err-bytes-clause-refused c =
    without_memory c.from_residual.result c.args.self.now.history c.args.piece.edit c.from_residual.ensures.1
    (none_at_once c.args.self.now.history c.args.piece.edit c.requires.lawful)

pub take_in-requires-clause-lawful : goal.take_in-requires-clause-lawful
take_in-requires-clause-lawful c =
    subst (λ (x : History). refused_by_stations x c.args.piece.edit ≡ None) (sym c.in_ok-bytes.ensures.history)
    (may_be_kept c.args.self.now.history c.args.piece c.sheets.ensures.lawful c.requires.holds c.requires.lawful).stations

pub returns-clause-claims : goal.returns-clause-claims
returns-clause-claims c = λ none site day.
    c.take_in.ensures.claims site day
    ∙ not_out _ _ (c.in_ok-bytes.ensures.claims site day ∙ none site day)
