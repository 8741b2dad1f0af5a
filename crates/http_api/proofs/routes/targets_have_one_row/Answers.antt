-- A target fits one route at most, and has its row.
use Rattle.http_api.proofs.ApartLemmas.{are_apart}
use Rattle.http_api.proofs.RouteLemmas.{rows_fit}
use Rattle.http_api.proofs.routes.targets_have_one_row.Goals as goal

pub returns-clause-one : goal.returns-clause-one
returns-clause-one c = are_apart

pub returns-clause-row : goal.returns-clause-row
returns-clause-row c = rows_fit
