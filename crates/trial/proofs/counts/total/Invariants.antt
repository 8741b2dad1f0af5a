use Rattle.std.proofs.Common.{◌≡◌, ◌*◌, ◌≤◌, ◌-◌}
use Rattle.fixed_units.specs.Quantities.{most_discharge}
use Rattle.trial.specs.Figures.{means_of}
use Rattle.trial.proofs.SumLemmas.{sum_before}
use Rattle.trial.proofs.counts.total.Given as goal

-- the stations before this one were summed
abbrev pub invariant-loop-station : goal.invariant-loop-station
invariant-loop-station g l =
    (1 ≤ l.station) × (l.sum ≡ sum_before (means_of l.office.register.history.events) l.station) × (l.sum ≤ (397 * most_discharge) * (l.station - 1))
