use Rattle.office.proofs.LeftLemmas.{one_damage}
use Rattle.office.proofs.laws.damaged_at_one_gate.Goals as goal

pub returns : goal.returns
returns c = one_damage
