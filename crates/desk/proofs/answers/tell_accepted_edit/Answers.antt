use Rattle.std.proofs.Common.{◌≡◌, refl, ◌∙◌, ap}
use Rattle.desk.specs.Replies.{answer_bytes, accepted_edit_reply}
use Rattle.http_api.specs.Replies.{bytes_of}
use Rattle.http_api.specs.AcceptedEdits.{accepted_edit_text}
use Rattle.http_api.specs.declared.replies.Reply.TheVariants as replies
use Rattle.desk.proofs.AnswerLemmas.{on_ok}
use Rattle.desk.proofs.answers.tell_accepted_edit.Goals as goal

pub returns-in-Some : goal.returns-in-Some
unfolding bytes_of
returns-in-Some g c =
    let same : bytes_of (replies.EditOf c.in-Some.edit) ≡ answer_bytes (accepted_edit_text c.in-Some.edit.now) = refl in
    on_ok c.make.result _ _ (λ is. is ∙ same ∙ ap accepted_edit_reply c.in-Some.ensures.edit) c.make.ensures
