-- Each half rises.
use Rattle.readings.proofs.HalvesLemmas.{left_rises, right_rises}
use Rattle.readings.proofs.halves.Halves.count_few_before.Goals as goal

pub count_few_before-requires : goal.count_few_before-requires
count_few_before-requires c = right_rises c.args.self.now.left.now c.args.self.now.right.now c.requires

pub count_few_before-requires-else-is_on_right : goal.count_few_before-requires-else-is_on_right
count_few_before-requires-else-is_on_right c = left_rises c.args.self.now.left.now c.args.self.now.right.now c.requires
