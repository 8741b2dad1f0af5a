use Rattle.civil_days.proofs.RuleLemmas.{zone_rule-posix}
use Rattle.civil_days.proofs.rules.zone_rule.Goals as goal

pub returns-clause-none : goal.returns-clause-none
returns-clause-none c = rw (zone_rule-posix c.args.text.now c.requires) c.posix_rule.ensures.none

pub returns-clause-value : goal.returns-clause-value
returns-clause-value c = simp (zone_rule-posix c.args.text.now c.requires) c.posix_rule.ensures.value
