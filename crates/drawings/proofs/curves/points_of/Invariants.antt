use Rattle.std.specs.Prelude.{◌≡◌, ◌++◌, All, drop}
use Rattle.drawings.specs.Curves.{IsPointOf, points_behind, points_of}
use Rattle.drawings.proofs.curves.points_of.Given as goal

-- the points so far and those of the samples that are left are all of them
abbrev pub invariant-loop-sample : goal.invariant-loop-sample
invariant-loop-sample l = record {
  all :
      l.points.items ++ points_behind l.times l.values l.gap l.before (drop l.sample-index l.samples) ≡ points_of l.times l.values l.gap l.samples;
  places : All (IsPointOf l.times l.values l.samples) l.points.items;
}
