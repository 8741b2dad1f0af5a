-- What holds of all parts holds of the one in force.
use Rattle.std.proofs.Common.{Bool, true, false, cond, List, [], ◌∷◌, Option, Some, ℤ}
use Rattle.std.specs.Prelude.{All, IfSome}
use Rattle.std.proofs.lemmas.List.Elements.{All-head, All-tail}
use Rattle.ratings.specs.Parts.{Part, holds, part_at}

kept : (P : Part → Type 0) (b : Bool) (part : Part) (rest : Option Part) → P part → IfSome rest P → IfSome (cond b (Some part) rest) P
kept P true part rest h k = h
kept P false part rest h k = k

pub part-holds : (P : Part → Type 0) (at : ℤ) (parts : List Part) → All P parts → IfSome (part_at at parts) P
part-holds P at [] h = tt
part-holds P at (part ∷ parts) h = kept P (holds at part) part (part_at at parts) (All-head P part parts h) (part-holds P at parts (All-tail P part parts h))
