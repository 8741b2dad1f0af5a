use Rattle.std.proofs.Common.{refl}
use Rattle.desk.proofs.CourseLemmas.{at_history}
use Rattle.desk.proofs.StopLemmas.{stop_inside}
use Rattle.desk.proofs.laws.a_stop_in_a_course_is_a_step.Goals as goal
use Rattle.history.specs.After.{reopen}

pub returns : goal.returns
returns c = λ old new steps image pieces none legal calls over left journal.
    let s = stop_inside old steps new image pieces none legal calls over left journal in (
      at_history old (reopen old.history.limits old.history.format pieces),
      s.at.before,
      s.at.behind,
      s.at.found,
      s.few.0,
      s.at.parts,
      s.at.over,
      refl,
      none,
      s.legal,
      s.few.1,
      s.few.2,
    )
