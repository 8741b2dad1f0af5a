use Rattle.std.specs.Prelude.{not}
use Rattle.rising.proofs.Placing.{filter_rises}
use Rattle.readings.specs.Readings.{instant_of, is_within}
use Rattle.readings.proofs.PuttingLemmas.{put_all_rises}
use Rattle.readings.proofs.RunLemmas.{with_flag_rises}
use Rattle.readings.proofs.WindowLemmas.{window_rises}
use Rattle.readings.proofs.laws.windows_rise.Goals as goal

pub returns-clause-put_all : goal.returns-clause-put_all
returns-clause-put_all c = put_all_rises

pub returns-clause-without_span : goal.returns-clause-without_span
returns-clause-without_span c = λ from to rs h. filter_rises instant_of (λ r. not (is_within from to r)) rs h

pub returns-clause-with_flag : goal.returns-clause-with_flag
returns-clause-with_flag c = with_flag_rises

pub returns-clause-window : goal.returns-clause-window
returns-clause-window c = window_rises
