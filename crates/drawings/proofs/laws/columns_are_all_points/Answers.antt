use Rattle.drawings.proofs.ThinLemmas.{columns_each, columns_whole}
use Rattle.drawings.proofs.laws.columns_are_all_points.Goals as goal

pub returns-clause-whole : goal.returns-clause-whole
returns-clause-whole c points = columns_whole points

pub returns-clause-each : goal.returns-clause-each
returns-clause-each c points = columns_each points
