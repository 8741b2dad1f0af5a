use Rattle.std.proofs.Common.{refl}
use Rattle.trial.proofs.CountLemmas.{counted_from}
use Rattle.trial.proofs.laws.events_are_edits_and_publications.Goals as goal
use Rattle.trial.specs.Trials.{beginning}
use Rattle.trial_orders.specs.Orders.{orders}

pub returns : goal.returns
returns c number after f = counted_from beginning after (orders number) refl f
