use Rattle.std.proofs.Common.{◌≡◌, ◌≤◌, ◌-◌}
use Rattle.trial.specs.Figures.{kept_one}
use Rattle.trial.proofs.SumLemmas.{sum_before}
use Rattle.trial.proofs.counts.kept.Given as goal

-- the stations before this one were summed
abbrev pub invariant-loop-station : goal.invariant-loop-station
invariant-loop-station g l =
    (1 ≤ l.station) × (l.count ≡ sum_before (kept_one l.office.register.history.events) l.station) × (l.count ≤ l.station - 1)
