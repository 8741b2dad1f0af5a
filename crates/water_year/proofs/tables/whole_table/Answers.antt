use Rattle.water_year.proofs.SumLemmas.{part_has_room}
use Rattle.water_year.proofs.tables.whole_table.Goals as goal

pub add-requires-clause-days : goal.add-requires-clause-days
add-requires-clause-days c =
    (part_has_room c.args.rows.now c.loop-row.row-index c.loop-row.sums c.loop-row.invariant c.requires.few c.requires.settled).days

pub add-requires-clause-missing : goal.add-requires-clause-missing
add-requires-clause-missing c =
    (part_has_room c.args.rows.now c.loop-row.row-index c.loop-row.sums c.loop-row.invariant c.requires.few c.requires.settled).missing

pub add-requires-clause-total : goal.add-requires-clause-total
add-requires-clause-total c =
    (part_has_room c.args.rows.now c.loop-row.row-index c.loop-row.sums c.loop-row.invariant c.requires.few c.requires.settled).total
