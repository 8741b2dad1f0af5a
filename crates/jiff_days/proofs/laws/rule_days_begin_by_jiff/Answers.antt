use Rattle.jiff_days.proofs.StartLemmas.{starts_by_rule}
use Rattle.jiff_days.proofs.laws.rule_days_begin_by_jiff.Goals as goal

pub returns : goal.returns
returns c text zone day midnight answer short read calendar is converted = starts_by_rule text zone midnight day answer short read calendar is converted
