use Rattle.editions.proofs.CoverLemmas.{leasts_decide}
use Rattle.editions.proofs.covers.equality_is_told.Goals as goal

pub returns : goal.returns
returns c = leasts_decide
