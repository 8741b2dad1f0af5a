use Rattle.std.proofs.Common.{◌≡◌, ℕ, List, ◌++◌, length, Some}
use Rattle.edit_bodies.proofs.ReadingLemmas.{IsFront}
use Rattle.edit_bodies.proofs.UsualLemmas.{rows_tokens}
use Rattle.edit_bodies.proofs.usual_form.readings_in.Given as goal
use Rattle.edit_bodies.specs.Grammars.{each_of, reading_of}
use Rattle.edit_bodies.specs.Trees.{items_of}
use Rattle.edit_bodies.specs.UsualForm.{rows_json}

abbrev pub invariant-loop-reader : goal.invariant-loop-reader
invariant-loop-reader l =
    ((rows : List (List (List ℕ))) × (l.initial.reader ≡ rows_tokens rows ++ l.reader) × (each_of reading_of (items_of (rows_json rows)) ≡ Some l.readings.items))
    × IsFront l.readings.items

abbrev pub decreases-loop-reader : goal.decreases-loop-reader
decreases-loop-reader l = length l.reader
