use Rattle.std.proofs.Common.{rules}
use Rattle.civil_days.proofs.years.weekday_of_month.Goals as goal

pub returns-else-week-eq5 : goal.returns-else-week-eq5
returns-else-week-eq5 c = search rules
