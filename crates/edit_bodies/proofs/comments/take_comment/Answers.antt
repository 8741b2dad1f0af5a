use Rattle.std.proofs.Common.{[]}
use Rattle.edit_bodies.proofs.MemberLemmas.{optional_taken}
use Rattle.edit_bodies.proofs.comments.take_comment.Goals as goal
use Rattle.edit_bodies.specs.Grammars.{comment_of}
use Rattle.edit_bodies.specs.Trees.{left}
use Rattle.edit_bodies.specs.declared.members.Member.TheVariants.{Comment}

pub returns : goal.returns
returns c =
    optional_taken Comment [] comment_of (left c.args.fields.now) (left c.remove.new.fields) c.remove.ensures c.comment_at-found.result c.comment_at-found.ensures
