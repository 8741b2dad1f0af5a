-- What is found among those of the day that are left is what is found among all.
use Rattle.std.proofs.Common.{◌≡◌, drop}
use Rattle.std.specs.Prelude.{find}
use Rattle.daily_values.specs.DayValue.{is_less, own_units, value_of}
use Rattle.daily_values.proofs.ExtremeLemmas.{best, is_best, own_of}
use Rattle.daily_values.proofs.from_scratch.find_greatest.Given as goal

abbrev pub invariant-loop-reading : goal.invariant-loop-reading
invariant-loop-reading l =
    find (is_best (value_of l.quantity) is_less (own_units l.parts)) (own_of l.parts (drop l.reading-index l.parts.window)) ≡ best (value_of l.quantity) is_less (own_units l.parts)
