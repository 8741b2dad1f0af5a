use Rattle.recompute.proofs.OutcomeLemmas.{published_where_awaited}
use Rattle.recompute.proofs.laws.jobs_are_published_where_awaited.Goals as goal

pub returns : goal.returns
returns c = published_where_awaited
