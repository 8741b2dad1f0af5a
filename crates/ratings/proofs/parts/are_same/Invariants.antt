-- What is left of both lists compares as the whole lists do.
use Rattle.std.specs.Prelude.{◌≡◌, drop}
use Rattle.ratings.specs.PartEquality.{same_parts}
use Rattle.ratings.proofs.parts.are_same.Given as goal

abbrev pub invariant-loop-part : goal.invariant-loop-part
invariant-loop-part l = same_parts (drop l.part-index l.parts) l.rest ≡ same_parts l.parts l.others
