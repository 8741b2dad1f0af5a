use Rattle.std.proofs.Common.{refl, sym, ap, subst, option_and_then}
use Rattle.edit_bodies.proofs.comments.comment_in.Goals as goal
use Rattle.edit_bodies.specs.Answers.{IsFound}
use Rattle.edit_bodies.specs.Grammars.{kept_if}
use Rattle.edit_bodies.specs.Texts.{is_comment}
use Rattle.edit_bodies.specs.declared.members.Member.TheVariants.{Comment}

pub returns-in-Some : goal.returns-in-Some
returns-in-Some c =
    subst (λ o. IsFound Comment (option_and_then (kept_if is_comment) o) c.comment_from.result) c.in-Some.ensures c.comment_from.ensures

pub returns-in-None : goal.returns-in-None
returns-in-None c = (ap (option_and_then (kept_if is_comment)) (sym c.in-None.ensures), refl)
