use Rattle.std.proofs.Common.{refl}
use Rattle.desk.proofs.CourseLemmas.{at_history, course_of, course_over}
use Rattle.desk.proofs.HeldStepLemmas.{all_held}
use Rattle.desk.proofs.laws.replies_are_a_course.Goals as goal

pub returns-clause-steps : goal.returns-clause-steps
returns-clause-steps c = λ old messages replies after none told.
    let course = course_of old none messages replies after told in (at_history old after, course.0, course.1, refl, none)

pub returns-clause-over : goal.returns-clause-over
returns-clause-over c = λ old new steps messages replies is. course_over old steps messages replies new is

pub returns-clause-held : goal.returns-clause-held
returns-clause-held c = λ fixed holdings messages replies is. all_held fixed holdings messages replies is
