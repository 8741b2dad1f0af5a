use Rattle.std.proofs.Common.{[], subst}
use Rattle.edit_bodies.proofs.comments.comment_at.Goals as goal
use Rattle.edit_bodies.specs.Answers.{IsFound}
use Rattle.edit_bodies.specs.Grammars.{comment_of}
use Rattle.edit_bodies.specs.Members.{read_or}
use Rattle.edit_bodies.specs.declared.members.Member.TheVariants.{Comment}

pub returns-in-Some : goal.returns-in-Some
returns-in-Some c =
    subst (λ o. IsFound Comment (read_or [] comment_of o) c.comment_in.result) c.in-Some.ensures c.comment_in.ensures
