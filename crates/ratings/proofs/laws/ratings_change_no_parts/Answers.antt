use Rattle.ratings.proofs.PeriodChangeLemmas.{rating_changes_none}
use Rattle.ratings.proofs.laws.ratings_change_no_parts.Goals as goal

pub returns : goal.returns
returns c = rating_changes_none
