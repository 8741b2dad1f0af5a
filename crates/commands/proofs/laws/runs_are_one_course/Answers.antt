use Rattle.commands.proofs.CourseLemmas.{one_course, over_all}
use Rattle.commands.proofs.laws.runs_are_one_course.Goals as goal

pub returns-clause-course : goal.returns-clause-course
returns-clause-course c = one_course

pub returns-clause-over : goal.returns-clause-over
returns-clause-over c = over_all
