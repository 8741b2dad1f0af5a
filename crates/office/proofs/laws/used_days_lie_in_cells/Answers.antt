use Rattle.office.proofs.UsedLemmas.{filled_lies_in_cells, filled_was_changed}
use Rattle.office.proofs.laws.used_days_lie_in_cells.Goals as goal

pub returns-clause-changed : goal.returns-clause-changed
returns-clause-changed c edits site day filled = filled_was_changed site day edits filled

pub returns-clause-within : goal.returns-clause-within
returns-clause-within c edits site first last first_day last_day used =
    (filled_lies_in_cells edits site first first_day used.0, filled_lies_in_cells edits site last last_day used.1)
