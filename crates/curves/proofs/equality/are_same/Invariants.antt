-- What is left of both lists compares as the whole lists do.
use Rattle.std.specs.Prelude.{◌≡◌, drop}
use Rattle.curves.specs.Equality.{same_entries}
use Rattle.curves.proofs.equality.are_same.Given as goal

abbrev pub invariant-loop-entry : goal.invariant-loop-entry
invariant-loop-entry l = same_entries (drop l.entry-index l.entries) l.rest ≡ same_entries l.entries l.others
