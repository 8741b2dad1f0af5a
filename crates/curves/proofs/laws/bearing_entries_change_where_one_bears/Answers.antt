use Rattle.curves.proofs.ChangeLemmas.{bearing_put, bearing_without}
use Rattle.curves.proofs.laws.bearing_entries_change_where_one_bears.Goals as goal

pub returns-clause-put : goal.returns-clause-put
returns-clause-put c = bearing_put

pub returns-clause-taken_out : goal.returns-clause-taken_out
returns-clause-taken_out c = bearing_without
