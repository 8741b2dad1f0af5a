-- Inputs where there were none differ, at the edit's site alone.
use Rattle.office_inputs.proofs.LawLemmas.{filled_changed}
use Rattle.office_inputs.proofs.laws.filled_days_were_changed.Goals as goal

pub returns : goal.returns
returns c = filled_changed
