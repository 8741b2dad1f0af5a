use Rattle.office.proofs.ShownLemmas.{missing_shown, pending_shown, text_shown}
use Rattle.office.proofs.laws.shown_sheets_are_true.Goals as goal

pub returns-clause-text : goal.returns-clause-text
returns-clause-text c old new steps site day text goes e = text_shown site day old new steps goes text e

pub returns-clause-pending : goal.returns-clause-pending
returns-clause-pending c old new steps site day number goes e = pending_shown site day old new steps goes number e

pub returns-clause-no_station : goal.returns-clause-no_station
returns-clause-no_station c old new steps site day goes e = missing_shown site day old new steps goes e
