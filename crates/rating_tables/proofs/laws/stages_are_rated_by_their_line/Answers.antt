use Rattle.rating_tables.proofs.TableLawLemmas.{between_rated, row_rated, rated_stands, rated_once}
use Rattle.rating_tables.proofs.laws.stages_are_rated_by_their_line.Goals as goal

pub returns-clause-stands : goal.returns-clause-stands
returns-clause-stands c = rated_stands

pub returns-clause-unique : goal.returns-clause-unique
returns-clause-unique c = rated_once

pub returns-clause-between : goal.returns-clause-between
returns-clause-between c = between_rated

pub returns-clause-row : goal.returns-clause-row
returns-clause-row c = row_rated
