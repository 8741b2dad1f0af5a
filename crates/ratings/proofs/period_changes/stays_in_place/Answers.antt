-- Two periods of one start that meet the time have equal parts where they are cut alike.
use Rattle.ratings.proofs.PeriodChangeLemmas.{both_met}
use Rattle.ratings.proofs.period_changes.stays_in_place.Goals as goal

pub returns-in-true-true : goal.returns-in-true-true
returns-in-true-true c = λ tables.
    both_met c.args.lo c.args.hi tables c.args.kept.now c.args.period.now c.are_cut_alike.result c.in-true-true.ensures c.in-true-true.ensures' c.requires c.are_cut_alike.ensures
