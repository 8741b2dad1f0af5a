use Rattle.rating_tables.proofs.RdbFaultLemmas.{never_memory}
use Rattle.rating_tables.proofs.laws.texts_never_want_memory.Goals as goal

pub returns : goal.returns
returns c = never_memory
