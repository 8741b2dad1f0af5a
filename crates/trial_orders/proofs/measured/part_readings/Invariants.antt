use Rattle.std.proofs.Common.{◌≡◌, ◌+◌, ◌-◌, ◌*◌, ◌≤◌, map}
use Rattle.std.specs.List.{range_with_len}
use Rattle.trial_orders.specs.Questions.{draws_before, reading_of}
use Rattle.trial_orders.proofs.measured.part_readings.Given as goal

-- the readings of the part before this place are there, each from a draw
abbrev pub invariant-loop-place : goal.invariant-loop-place
invariant-loop-place l =
    (2_400 * l.part ≤ l.place)
    × (l.ahead ≡ record { number = l.fn.draws.number; made = draws_before l.station l.part + (l.place - 2_400 * l.part) })
    × (l.readings.items ≡ map (reading_of l.fn.draws.number l.station) (range_with_len (2_400 * l.part) (l.place - 2_400 * l.part)))
