use Rattle.office.proofs.CourseLemmas.{jobs_published}
use Rattle.office.proofs.laws.given_jobs_are_published_where_awaited.Goals as goal

pub returns : goal.returns
returns c old new before between after given job outcome gives goes = jobs_published old new before between after given job outcome gives goes
