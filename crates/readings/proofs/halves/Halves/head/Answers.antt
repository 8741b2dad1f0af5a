use Rattle.readings.proofs.HalvesLemmas.{right_rises}
use Rattle.readings.proofs.halves.Halves.head.Goals as goal

pub head-requires-2 : goal.head-requires-2
head-requires-2 c = right_rises c.args.self.now.left.now c.args.self.now.right.now c.requires
