use Rattle.curves.proofs.BearingCases.{by_cases}
use Rattle.curves.proofs.laws.bearing_entries_by_cases.Goals as goal

pub returns : goal.returns
returns c = by_cases
