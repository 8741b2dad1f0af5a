use Rattle.editions.proofs.CoverLemmas.{need-most, need-some}
use Rattle.editions.proofs.covers.the_whole_day_is_enough.Goals as goal

pub returns-clause-most : goal.returns-clause-most
returns-clause-most c = need-most

pub returns-clause-some : goal.returns-clause-some
returns-clause-some c = need-some
