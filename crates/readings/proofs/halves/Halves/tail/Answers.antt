use Rattle.readings.proofs.HalvesLemmas.{right_rises}
use Rattle.readings.proofs.halves.Halves.tail.Goals as goal

pub tail-requires-2 : goal.tail-requires-2
tail-requires-2 c = right_rises c.args.self.now.left.now c.args.self.now.right.now c.requires
