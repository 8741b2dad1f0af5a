use Rattle.readings.proofs.WindowCases.{one_window, some_window}
use Rattle.readings.proofs.laws.windows_are_told_by_cases.Goals as goal

pub returns-clause-one : goal.returns-clause-one
returns-clause-one c = one_window

pub returns-clause-some : goal.returns-clause-some
returns-clause-some c = some_window
