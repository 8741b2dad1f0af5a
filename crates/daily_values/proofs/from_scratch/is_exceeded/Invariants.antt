-- One is met among those of the day that are left exactly where it is among all.
use Rattle.std.specs.List.{list_any}
use Rattle.std.proofs.Common.{◌≡◌, drop}
use Rattle.daily_values.specs.DayValue.{is_less, own_units, value_of}
use Rattle.daily_values.proofs.ExtremeLemmas.{own_of}
use Rattle.daily_values.proofs.from_scratch.is_exceeded.Given as goal

abbrev pub invariant-loop-reading : goal.invariant-loop-reading
invariant-loop-reading l =
    list_any (λ v. is_less (value_of l.quantity l.unit) (value_of l.quantity v)) (own_of l.parts (drop l.reading-index l.parts.window)) ≡ list_any (λ v. is_less (value_of l.quantity l.unit) (value_of l.quantity v)) (own_units l.parts)
