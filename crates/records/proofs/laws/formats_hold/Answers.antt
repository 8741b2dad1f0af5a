use Rattle.records.proofs.LawLemmas.{formats_held}
use Rattle.records.proofs.laws.formats_hold.Goals as goal

pub returns : goal.returns
returns c piece = formats_held piece
