use Rattle.approval.proofs.LawLemmas.{approved_stays}
use Rattle.approval.proofs.laws.approved_days_stay.Goals as goal

pub returns : goal.returns
returns c = approved_stays
