use Rattle.logger_files.proofs.LawLemmas.{all_counted, each_judged, parted_once}
use Rattle.logger_files.proofs.laws.each_row_is_in_one_output.Goals as goal

pub returns-clause-judged : goal.returns-clause-judged
returns-clause-judged c = each_judged

pub returns-clause-once : goal.returns-clause-once
returns-clause-once c = parted_once

pub returns-clause-counted : goal.returns-clause-counted
returns-clause-counted c = all_counted
