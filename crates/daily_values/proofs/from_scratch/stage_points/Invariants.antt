-- The points of the readings so far.
use Rattle.std.proofs.Common.{◌≡◌, take}
use Rattle.std.specs.Prelude.{All, map}
use Rattle.unit_discharge.specs.Unit.{most_corrected}
use Rattle.daily_values.specs.DayValue.{unit_of, stage_point}
use Rattle.daily_values.specs.Figures.{IsValueWithin}
use Rattle.daily_values.proofs.from_scratch.stage_points.Given as goal

abbrev pub invariant-loop-reading : goal.invariant-loop-reading
invariant-loop-reading l = record {
  points : l.points.items ≡ map stage_point (map (unit_of l.parts) (take l.reading-index l.parts.window));
  within : All (λ p. IsValueWithin most_corrected most_corrected p.1) l.points.items;
}
