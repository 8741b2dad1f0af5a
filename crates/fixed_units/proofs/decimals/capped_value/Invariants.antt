use Rattle.std.proofs.Common.{◌≡◌, ◌+◌, ◌^◌, min, take}
use Rattle.std.specs.Str.Parse.{digits_value_after}
use Rattle.fixed_units.proofs.decimals.capped_value.Given as goal

abbrev pub invariant-loop-digit : goal.invariant-loop-digit
invariant-loop-digit l =
    l.value ≡ min (10 ^ 13 + 1) (digits_value_after 10 l.before (take l.digit-index l.digits))
