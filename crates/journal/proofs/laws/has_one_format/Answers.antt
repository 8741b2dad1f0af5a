use Rattle.journal.proofs.Walks.{one_header}
use Rattle.journal.proofs.laws.has_one_format.Goals as goal

pub returns : goal.returns
returns c format other bytes here there = one_header format other bytes here there
