use Rattle.edits.proofs.KindLemmas.{numbered_again, named_again}
use Rattle.edits.proofs.kinds.kinds_are_told_apart.Goals as goal

pub returns-clause-number : goal.returns-clause-number
returns-clause-number c = numbered_again

pub returns-clause-name : goal.returns-clause-name
returns-clause-name c = named_again
