-- What is decided on days, and its numbers in records.
use Rattle.std.specs.Prelude.{ℕ, ◌==◌, Option, Some, None, if◌then◌else◌}
use Rattle.edits.specs.declared.decisions.Decision.{Decision}
use Rattle.edits.specs.declared.decisions.Decision.TheVariants.{Approve, Rescind}

-- the number of a decision
abbrev pub decision_number : Decision → ℕ
decision_number Approve = 0
decision_number Rescind = 1

-- the decision of a number
abbrev pub decision_of : ℕ → Option Decision
decision_of number =
    if number == 0 then Some Approve
    else (if number == 1 then Some Rescind else None)
