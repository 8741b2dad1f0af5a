-- `==` tells the same.
use Rattle.readings.proofs.EqualityLemmas.{lists_told}
use Rattle.readings.proofs.equality.are_same.Goals as goal

pub returns : goal.returns
returns c = lists_told c.args.readings.now c.args.others.now _ c.eq.ensures
