use Rattle.std.proofs.Common.{◌≡◌, ◌*◌, ◌≤◌, ◌-◌}
use Rattle.fixed_units.specs.Calendar.{days_of_calendar}
use Rattle.trial.specs.Figures.{approved_of}
use Rattle.trial.proofs.SumLemmas.{sum_before}
use Rattle.trial.proofs.counts.approved.Given as goal

-- the stations before this one were summed
abbrev pub invariant-loop-station : goal.invariant-loop-station
invariant-loop-station g l =
    (1 ≤ l.station) × (l.count ≡ sum_before (approved_of l.office.register.history.events) l.station) × (l.count ≤ days_of_calendar * (l.station - 1))
