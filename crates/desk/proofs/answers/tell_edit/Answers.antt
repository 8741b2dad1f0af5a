use Rattle.std.proofs.Common.{Result, false, ◌∙◌, ap, subst}
use Rattle.desk.specs.Answering.{told_bytes}
use Rattle.desk.specs.declared.answers.Told.{Told}
use Rattle.desk.proofs.AnswerLemmas.{made_told, refused_by, unwritten}
use Rattle.desk.proofs.answers.tell_edit.Goals as goal
use Rattle.office.specs.Edits.{Edits, asks_disk}
use Rattle.office.specs.declared.offices.Accepted.{Accepted}
use Rattle.office_inputs.specs.declared.refusals.Refusal.{Refusal}

pub returns-in-Ok-2-clause-memory : goal.returns-in-Ok-2-clause-memory
returns-in-Ok-2-clause-memory c = λ number ready none.
    absurd (made_told c.made_for.result c.accept.new.self.reply number false c.made_for.ensures.made (c.accept.ensures number ready) none)

pub returns-in-Err-clause-answered : goal.returns-in-Err-clause-answered
returns-in-Err-clause-answered c = λ h next edit is ready.
    refused_by h edit (told_bytes c.refuse.result c.refuse.new.self.reply) next c.in-Err.refusal
    (subst (λ (told : Result Accepted Refusal). Edits h edit next told) c.in-Err.is is) c.refuse.ensures.refused
    (λ in_doubt same. ap (λ (told : Told). told_bytes told c.refuse.new.self.reply) (c.refuse.ensures.fault in_doubt same))

pub returns-in-Err-clause-memory : goal.returns-in-Err-clause-memory
returns-in-Err-clause-memory c = λ number ready none.
    ap asks_disk c.in-Err.is ∙ unwritten c.in-Err.refusal c.refuse.result c.refuse.new.self.reply c.refuse.ensures.fault none
