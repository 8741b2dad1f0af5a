use Rattle.desk.proofs.OneReplyLemmas.{one_list}
use Rattle.desk.proofs.laws.replies_are_one.Goals as goal

pub returns : goal.returns
returns c h messages replies others next after told other own its = one_list h messages replies others next after told other own its
