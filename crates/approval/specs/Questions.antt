-- What is asked of the statuses of days.
use Rattle.std.specs.Prelude.{Bool, not}
use Rattle.approval.specs.Statuses.{is_approved, is_in_review, is_reviewed_by}
use Rattle.approval.specs.declared.questions.Question.{Question}
use Rattle.approval.specs.declared.questions.Question.TheVariants.{IsInReview, IsNotInReview, IsReviewedBy, IsApproved, IsNotApproved}
use Rattle.approval.specs.declared.status.Status.{Status}

-- the answer of a status
abbrev pub holds : Question → Status → Bool
holds IsInReview status = is_in_review status
holds IsNotInReview status = not (is_in_review status)
holds (IsReviewedBy by) status = is_reviewed_by by.now status
holds IsApproved status = is_approved status
holds IsNotApproved status = not (is_approved status)
