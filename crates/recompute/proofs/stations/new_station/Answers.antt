use Rattle.std.proofs.Common.{ap, ◌∙◌}
use Rattle.day_cells.specs.KeptDays.{waiting_of}
use Rattle.recompute.proofs.ReplaceLemmas.{none_waiting_there}
use Rattle.recompute.proofs.stations.new_station.Goals as goal

pub returns-in-Ok-clause-waiting : goal.returns-in-Ok-clause-waiting
returns-in-Ok-clause-waiting c =
    c.prepare.ensures.waiting ∙ ap waiting_of c.new-station.ensures ∙ none_waiting_there c.args.site c.args.first
