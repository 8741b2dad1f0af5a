-- The phases of a trial in which something is asked of each station, and the draws do not come in.
use Rattle.std.specs.Prelude.{ℕ, List}
use Rattle.trial.specs.declared.phases.Phase.{Phase}
use Rattle.trial.specs.declared.phases.Phase.TheVariants.{SetUp, Correct, Approve, Flag}
use Rattle.trial_orders.specs.Orders.{Order, setting_up, correcting, approving, flagging_readings}

-- what is asked of a station
abbrev pub orders_in : Phase → ℕ → List Order
orders_in SetUp = setting_up
orders_in Correct = correcting
orders_in Approve = approving
orders_in Flag = flagging_readings
