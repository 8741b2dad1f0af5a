-- Each turn takes words.
use Rattle.std.proofs.Common.{length}
use Rattle.ledger.proofs.words.order_in.Given as goal

abbrev pub decreases-loop-name : goal.decreases-loop-name
decreases-loop-name l = length l.words.rest.items
