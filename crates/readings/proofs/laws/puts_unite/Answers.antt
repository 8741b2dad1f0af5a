use Rattle.readings.proofs.PuttingLemmas.{put_all_found}
use Rattle.readings.proofs.laws.puts_unite.Goals as goal

pub returns : goal.returns
returns c list rs n h k = put_all_found n list rs h
