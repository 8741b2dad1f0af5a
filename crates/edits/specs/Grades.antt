-- The grades of field measurements and their numbers in records.
use Rattle.std.specs.Prelude.{ℕ, ◌==◌, Option, Some, None, if◌then◌else◌}
use Rattle.edits.specs.declared.measurements.Grade.{Grade}
use Rattle.edits.specs.declared.measurements.Grade.TheVariants.{Excellent, Good, Fair, Poor}

-- the number of a grade, the best first
abbrev pub grade_number : Grade → ℕ
grade_number Excellent = 0
grade_number Good = 1
grade_number Fair = 2
grade_number Poor = 3

-- the grade of a number
abbrev pub grade_of : ℕ → Option Grade
grade_of number =
    if number == 0 then Some Excellent
    else (if number == 1 then Some Good
    else (if number == 2 then Some Fair
    else (if number == 3 then Some Poor else None)))
