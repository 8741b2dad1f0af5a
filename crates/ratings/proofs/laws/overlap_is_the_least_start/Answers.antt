use Rattle.ratings.proofs.OverlapLemmas.{overlap_stands, overlap_least, overlap_none}
use Rattle.ratings.proofs.laws.overlap_is_the_least_start.Goals as goal

pub returns-clause-stands : goal.returns-clause-stands
returns-clause-stands c = overlap_stands

pub returns-clause-least : goal.returns-clause-least
returns-clause-least c = overlap_least

pub returns-clause-none : goal.returns-clause-none
returns-clause-none c = overlap_none
