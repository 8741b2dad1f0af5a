use Rattle.history.proofs.RepeatLemmas.{is_repeated}
use Rattle.history.proofs.laws.an_accepted_edit_is_repeated.Goals as goal

pub returns : goal.returns
returns c h place edit legal is = is_repeated h place edit legal is
