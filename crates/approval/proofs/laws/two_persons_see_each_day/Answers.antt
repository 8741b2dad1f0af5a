use Rattle.approval.proofs.LawLemmas.{by_another, was_reviewed}
use Rattle.approval.proofs.laws.two_persons_see_each_day.Goals as goal

pub returns : goal.returns
returns c = record { reviewed = was_reviewed; another = by_another }
