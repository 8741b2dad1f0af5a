use Rattle.office.proofs.StopLemmas.{left_between, left_inside}
use Rattle.office.proofs.laws.no_acknowledged_edit_is_lost.Goals as goal

pub returns-clause-between : goal.returns-clause-between
returns-clause-between c old at before image pieces goes left journal =
    let has = left_between old at before image pieces goes left journal in
    (has.0, has.1.0, has.1.1, has.1.2)

pub returns-clause-inside : goal.returns-clause-inside
returns-clause-inside c old at new before step image pieces goes call is left journal =
    let has = left_inside old at new before step image pieces goes call is left journal in
    (has.0, has.1.0, has.1.1, has.1.2)
