-- What is left of both lists compares as the whole lists do.
use Rattle.std.specs.Prelude.{◌≡◌, drop, map, All, IsSome}
use Rattle.ratings.specs.Numbered.{rating_of}
use Rattle.ratings.specs.PartEquality.{same_parts}
use Rattle.ratings.specs.Parts.{part_of}
use Rattle.ratings.proofs.cutting.are_cut.Given as goal

abbrev pub invariant-loop-part : goal.invariant-loop-part
invariant-loop-part l =
    (same_parts (drop l.part-index l.parts) (map (part_of l.lo l.hi l.tables.list) l.rest) ≡ same_parts l.parts (map (part_of l.lo l.hi l.tables.list) l.periods))
    × All (λ p. IsSome (rating_of p.rating l.tables.list)) l.rest
