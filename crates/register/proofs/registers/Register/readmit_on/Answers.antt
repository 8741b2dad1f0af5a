-- A lock alone may refuse it then.
use Rattle.std.specs.Prelude.{◌≡◌, None, OnOk, Result, Ok, Err}
use Rattle.std.proofs.Common.{ap, sym, ◌∙◌}
use Rattle.history.specs.Verdicts.{refused_as_locked}
use Rattle.register.specs.Asked.{readmission_refusal}
use Rattle.register.proofs.AdmittedLemmas.{refused_then}
use Rattle.register.proofs.registers.Register.readmit_on.Goals as goal

pub returns-in-Some-clause-refused : goal.returns-in-Some-clause-refused
returns-in-Some-clause-refused c =
    refused_then c.args.self.now.history c.args.piece.edit c.requires.at_once
    ∙ ap (refused_as_locked c.args.self.now.history) (sym c.edit.ensures) ∙ sym c.lock_refusal.ensures ∙ c.in-Some.is

pub readmit_unlocked-requires-clause-lawful : goal.readmit_unlocked-requires-clause-lawful
readmit_unlocked-requires-clause-lawful c =
    refused_then c.args.self.now.history c.args.piece.edit c.requires.at_once
    ∙ ap (refused_as_locked c.args.self.now.history) (sym c.edit.ensures) ∙ sym c.lock_refusal.ensures ∙ c.in_default.is

always : {T E : Type 0} (r : Result T E) (P : Type 0) → P → OnOk r P
always (Ok x) P p = p
always (Err e) P p = tt

pub returns-clause-lawful : goal.returns-clause-lawful
returns-clause-lawful c =
    always c.readmit_unlocked.result (readmission_refusal c.args.self.now.history c.args.piece.edit ≡ None)
    (refused_then c.args.self.now.history c.args.piece.edit c.requires.at_once
    ∙ ap (refused_as_locked c.args.self.now.history) (sym c.edit.ensures) ∙ sym c.lock_refusal.ensures ∙ c.in_default.is)
