use Rattle.history.proofs.CommentLemmas.{comment_held}
use Rattle.history.proofs.laws.comments_are_held.Goals as goal

pub returns : goal.returns
returns c h place edit legal is = comment_held h place edit legal is
