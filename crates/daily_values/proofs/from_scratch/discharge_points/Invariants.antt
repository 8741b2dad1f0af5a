-- The points of the readings so far.
use Rattle.std.proofs.Common.{◌≡◌, take}
use Rattle.std.specs.Prelude.{All, map}
use Rattle.fixed_units.specs.Quantities.{most_discharge}
use Rattle.daily_values.specs.DayValue.{unit_of, discharge_point}
use Rattle.daily_values.specs.Figures.{IsValueWithin}
use Rattle.daily_values.proofs.from_scratch.discharge_points.Given as goal

abbrev pub invariant-loop-reading : goal.invariant-loop-reading
invariant-loop-reading l = record {
  points : l.points.items ≡ map discharge_point (map (unit_of l.parts) (take l.reading-index l.parts.window));
  within : All (λ p. IsValueWithin 0 most_discharge p.1) l.points.items;
}
