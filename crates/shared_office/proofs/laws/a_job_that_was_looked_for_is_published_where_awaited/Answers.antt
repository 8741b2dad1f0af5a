use Rattle.shared_office.proofs.GivenLemmas.{looked_comes_out}
use Rattle.shared_office.proofs.laws.a_job_that_was_looked_for_is_published_where_awaited.Goals as goal

pub returns : goal.returns
returns c = λ fixed last at later job found on. looked_comes_out fixed last at later job found on
