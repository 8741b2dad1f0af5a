use Rattle.register.proofs.CourseLemmas.{job_outcome}
use Rattle.register.proofs.laws.jobs_are_published_where_awaited.Goals as goal

pub returns : goal.returns
returns c events since d h = job_outcome events since d h
