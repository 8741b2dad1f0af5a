-- Kind by kind.
use Rattle.depend.proofs.IntervalLemmas.{no_day_outside}
use Rattle.depend.proofs.laws.no_day_outside_the_interval_changes.Goals as goal

pub returns : goal.returns
returns c = no_day_outside
