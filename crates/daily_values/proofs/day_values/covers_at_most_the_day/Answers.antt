use Rattle.std.proofs.Common.{refl}
use Rattle.daily_values.specs.DayValue.{stage_point}
use Rattle.daily_values.proofs.AreaLemmas.{covered-le, discharge-le}
use Rattle.daily_values.proofs.day_values.covers_at_most_the_day.Goals as goal

pub returns-clause-stage : goal.returns-clause-stage
returns-clause-stage c = covered-le stage_point (λ u. refl)

pub returns-clause-discharge : goal.returns-clause-discharge
returns-clause-discharge c = discharge-le
