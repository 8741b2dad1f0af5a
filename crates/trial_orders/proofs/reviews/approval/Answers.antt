use Rattle.std.proofs.Common.{rules, subst, sym}
use Rattle.edits.specs.Lawful.{IsLawful}
use Rattle.trial_orders.proofs.LawfulLemmas.{lawful_approval}
use Rattle.trial_orders.proofs.reviews.approval.Goals as goal

pub returns-clause-what : goal.returns-clause-what
returns-clause-what c = search rules

pub returns-clause-lawful : goal.returns-clause-lawful
returns-clause-lawful c = subst IsLawful (sym (returns-clause-what c)) lawful_approval
