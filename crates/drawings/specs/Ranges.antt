-- Round ranges: the numbers that an axis has, and those of them that are told beside it.
use Rattle.std.specs.Prelude.{ℕ, ◌*◌, unsigned_abs, find, unwrap_or, List, Option, None, Some, if◌then◌else◌, ℤ, pos, ◌+ℤ◌, ◌-ℤ◌, ◌*ℤ◌, int_le}
use Rattle.std.specs.Int.{int_rem_euclid}
use Rattle.drawings.specs.declared.ranges.Range.{Range}
use Rattle.drawings.specs.declared.steps.TheConstants.{STEPS}

-- the first of the steps of which eight are no less than a length
abbrev pub first_step : List ℤ → ℤ → Option ℤ
first_step steps length = find (λ step. int_le length (pos 8 *ℤ step)) steps

-- the greatest of the round steps
abbrev pub greatest_step : ℤ
greatest_step = pos 50_000_000_000_000_000

unfoldable pub round_step : ℤ → ℤ
round_step length = unwrap_or (first_step STEPS length) greatest_step

-- the multiple of a step at or below a number, and the one above it
abbrev pub floor_to : ℤ → ℤ → ℤ
floor_to step n = n -ℤ int_rem_euclid n step

abbrev pub above : ℤ → ℤ → ℤ
above step n = floor_to step n +ℤ step

-- a multiple of the step that is in a range, counted from its least number
abbrev pub tick : Range → ℕ → Option ℤ
tick range k =
    if int_le (range.least +ℤ pos (k * unsigned_abs range.step)) range.greatest then Some (range.least +ℤ pos (k * unsigned_abs range.step)) else None
