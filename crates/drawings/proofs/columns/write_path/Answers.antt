use Rattle.std.proofs.Common.{◌≡◌, length, rules}
use Rattle.drawings.proofs.ColumnLemmas.{path_done}
use Rattle.drawings.proofs.columns.write_path.Goals as goal

pub returns-clause-ok : goal.returns-clause-ok
returns-clause-ok c =
    let none : length c.loop-rest.rest.now ≡ 0 = search rules in
    path_done c.loop-rest.out c.args.out.now c.loop-rest.rest.now c.args.points.now none c.loop-rest.invariant.whole
