use Rattle.history.proofs.FirstLockLemmas.{changed_first, changed_not_accepted, first_locked_out, is_locked_out, locked_out}
use Rattle.history.proofs.LockedLemmas.{accepted_keeps, locked_changes, locked_is}
use Rattle.history.proofs.NeverLockedLemmas.{decision_never, review_never}
use Rattle.history.proofs.laws.an_edit_is_locked_where_it_would_change_an_approved_day.Goals as goal

pub returns-clause-exactly : goal.returns-clause-exactly
returns-clause-exactly c h edit day =
    (λ v. is_locked_out h edit day v, λ both. locked_out h edit day both.0 (changed_first h.events edit day both.1))

pub returns-clause-some : goal.returns-clause-some
returns-clause-some c h edit day reaches changed = first_locked_out h edit day reaches changed

pub returns-clause-not_accepted : goal.returns-clause-not_accepted
returns-clause-not_accepted c h edit day changed v = changed_not_accepted h edit day changed v

pub returns-clause-not_locked : goal.returns-clause-not_locked
returns-clause-not_locked c h edit named none v = none named (is_locked_out h edit named v).1.changed

pub returns-clause-first : goal.returns-clause-first
returns-clause-first c h edit day v = locked_is h edit day v

pub returns-clause-changes : goal.returns-clause-changes
returns-clause-changes c h edit day v = locked_changes h edit day v

pub returns-clause-accepted : goal.returns-clause-accepted
returns-clause-accepted c h edit day v is approved = accepted_keeps h edit day v is approved

pub returns-clause-review : goal.returns-clause-review
returns-clause-review c h edit from to day e v = review_never h edit from to day e v

pub returns-clause-decision : goal.returns-clause-decision
returns-clause-decision c h edit from to day decision e v = decision_never h edit from to day decision e v
