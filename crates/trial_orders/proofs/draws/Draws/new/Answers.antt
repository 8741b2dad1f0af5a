use Rattle.std.proofs.Common.{refl}
use Rattle.trial_orders.specs.Draws.{draw_at}
use Rattle.trial_orders.proofs.draws.Draws.new.Goals as goal

pub invariant_of-result : goal.invariant_of-result
unfolding draw_at
invariant_of-result c = refl
