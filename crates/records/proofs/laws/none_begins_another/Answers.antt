use Rattle.records.proofs.LawLemmas.{no_prefix}
use Rattle.records.proofs.laws.none_begins_another.Goals as goal

pub returns : goal.returns
returns c format a b x y g h e = no_prefix format a b x y g h e
