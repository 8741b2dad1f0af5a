use Rattle.civil_days.proofs.UniqueLemmas.{days_unique, instants_unique, stamps_unique}
use Rattle.civil_days.proofs.laws.texts_of_days_are_unique.Goals as goal

pub returns-clause-days : goal.returns-clause-days
returns-clause-days c = days_unique

pub returns-clause-instants : goal.returns-clause-instants
returns-clause-instants c = instants_unique

pub returns-clause-stamps : goal.returns-clause-stamps
returns-clause-stamps c = stamps_unique
