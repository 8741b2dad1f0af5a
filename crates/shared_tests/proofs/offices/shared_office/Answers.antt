use Rattle.shared_tests.proofs.OpenedLemmas.{counted}
use Rattle.shared_tests.proofs.offices.shared_office.Goals as goal

pub new-requires-3 : goal.new-requires-3
new-requires-3 c = counted _ _ _ _ c.in-Ok.ensures.opened
