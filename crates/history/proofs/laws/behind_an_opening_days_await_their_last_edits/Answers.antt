use Rattle.history.proofs.OpenedDayLemmas.{awaits_last, awaits_none}
use Rattle.history.proofs.laws.behind_an_opening_days_await_their_last_edits.Goals as goal

pub returns-clause-changed : goal.returns-clause-changed
returns-clause-changed c limits format pieces site day number last = awaits_last site day pieces number last

pub returns-clause-unchanged : goal.returns-clause-unchanged
returns-clause-unchanged c limits format pieces site day none = awaits_none site day pieces none
