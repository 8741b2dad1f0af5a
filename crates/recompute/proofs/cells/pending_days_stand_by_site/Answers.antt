use Rattle.recompute.proofs.FoundLemmas.{each_told, all_listed}
use Rattle.recompute.proofs.cells.pending_days_stand_by_site.Goals as goal

pub returns-clause-rising : goal.returns-clause-rising
returns-clause-rising c = rw (← c.cells.view_is) c.cells.invariant.rising

pub returns-clause-each : goal.returns-clause-each
returns-clause-each c = rw (← c.cells.view_is) (each_told c.cells.inside.stations.items c.cells.invariant.rising)

pub returns-clause-all : goal.returns-clause-all
returns-clause-all c site day = all_listed site day c.args.cells.now
