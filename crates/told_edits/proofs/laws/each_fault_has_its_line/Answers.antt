use Rattle.told_edits.proofs.FaultLemmas.{all_told}
use Rattle.told_edits.proofs.laws.each_fault_has_its_line.Goals as goal

pub returns : goal.returns
returns c end h after edits lines sent = all_told end h edits lines after sent
