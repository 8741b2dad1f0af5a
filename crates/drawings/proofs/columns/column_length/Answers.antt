use Rattle.std.proofs.Common.{◌-◌, false, drop, length, length-drop, arith}
use Rattle.std.proofs.lemmas.List.{take_all}
use Rattle.drawings.proofs.ColumnLemmas.{column_cut}
use Rattle.drawings.proofs.columns.column_length.Goals as goal

pub returns-clause-column : goal.returns-clause-column
returns-clause-column c =
    let points = c.args.points.now in
    column_cut points _ (record { x = 0; y = 0; joined = false }) c.count_going_on.result c.requires
    (take_all (length points - 1) (drop 1 points) (omega (arith, length-drop 1 points))) c.count_going_on.ensures
