use Rattle.std.proofs.Common.{◌≡◌, ◌+◌, ◌*◌, ◌≤◌}
use Rattle.std.specs.List.{sum_by}
use Rattle.fixed_units.specs.Calendar.{days_from}
use Rattle.fixed_units.specs.Quantities.{most_discharge}
use Rattle.trial.specs.Figures.{first_summed, mean_on}
use Rattle.trial.proofs.SumLemmas.{sum_from}
use Rattle.trial.proofs.counts.means_of.Given as goal

-- the days before this one were summed
abbrev pub invariant-loop-place : goal.invariant-loop-place
invariant-loop-place g l =
    (l.sum + sum_from (mean_on l.office.register.history.events l.site) first_summed 397 l.place ≡ sum_by (mean_on l.office.register.history.events l.site) (days_from first_summed 397))
    × (l.sum ≤ most_discharge * l.place)
