use Rattle.readings.proofs.Comparing.{far_put_leaves, far_drop_leaves, far_flag_leaves}
use Rattle.readings.proofs.laws.far_changes_leave_a_window.Goals as goal

pub returns-clause-put_all : goal.returns-clause-put_all
returns-clause-put_all c = far_put_leaves

pub returns-clause-without_span : goal.returns-clause-without_span
returns-clause-without_span c = far_drop_leaves

pub returns-clause-with_flag : goal.returns-clause-with_flag
returns-clause-with_flag c = far_flag_leaves
