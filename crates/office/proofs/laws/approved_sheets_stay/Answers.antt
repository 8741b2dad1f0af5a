use Rattle.office.proofs.KeptSheetLemmas.{same_after, sheet_on_opening, shown_after}
use Rattle.office.proofs.StopLemmas.{stopped_between, stopped_inside}
use Rattle.office.specs.Steps.{cut_off}
use Rattle.std.specs.Prelude.{None}
use Rattle.office.proofs.laws.approved_sheets_stay.Goals as goal

pub returns-clause-standing : goal.returns-clause-standing
returns-clause-standing c old new steps site day goes legal is approved none = (same_after old new steps site day goes legal is approved none).standing

pub returns-clause-inputs : goal.returns-clause-inputs
returns-clause-inputs c old new steps site day goes legal is approved none = (same_after old new steps site day goes legal is approved none).inputs

pub returns-clause-sheet : goal.returns-clause-sheet
returns-clause-sheet c old new steps site day goes legal is approved none = (same_after old new steps site day goes legal is approved none).sheet

pub returns-clause-shown : goal.returns-clause-shown
returns-clause-shown c old new steps site day goes legal is approved none = shown_after old new steps site day goes legal is approved none

pub returns-clause-between : goal.returns-clause-between
returns-clause-between c old register image site day left opened is approved =
    let stopped = stopped_between old register image left opened in
    sheet_on_opening old register None stopped.0 site day stopped.1 opened.legal is approved

pub returns-clause-inside : goal.returns-clause-inside
returns-clause-inside c old step new register image site day call goes left opened is approved =
    let stopped = stopped_inside old step new register image call goes left opened in
    sheet_on_opening old register (cut_off step) stopped.0 site day stopped.1 opened.legal is approved
