use Rattle.told_edits.proofs.AgainLemmas.{told_again}
use Rattle.told_edits.proofs.laws.edits_in_force_are_told_again.Goals as goal

pub returns : goal.returns
returns c end h after edits numbers lines legal stand sent = told_again end h after edits numbers lines legal stand sent
