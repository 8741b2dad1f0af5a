use Rattle.drawings.proofs.ThinLemmas.{keeps}
use Rattle.drawings.proofs.laws.strokes_keep_the_extremes.Goals as goal

pub returns : goal.returns
returns c p points = keeps p points
