use Rattle.readings.proofs.Comparing.{near_tell}
use Rattle.readings.proofs.laws.near_readings_tell_a_window.Goals as goal

pub returns : goal.returns
returns c = near_tell
