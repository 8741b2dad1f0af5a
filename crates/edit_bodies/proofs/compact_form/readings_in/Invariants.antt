use Rattle.std.proofs.Common.{◌≡◌, ◌++◌, ℕ, List, true, length, Some}
use denote.Text.{Utf8}
use denote.Shadow.{shadow}
use Rattle.edit_bodies.proofs.CompactLemmas.{commas}
use Rattle.edit_bodies.proofs.compact_form.readings_in.Given as goal
use Rattle.edit_bodies.specs.Grammars.{are_rising, each_of, reading_of}
use Rattle.edit_bodies.specs.Trees.{items_of}
use Rattle.edit_bodies.specs.UsualForm.{rows_json}

abbrev pub invariant-loop-readings : goal.invariant-loop-readings
invariant-loop-readings l =
    shadow (Utf8 l.rest)
    × ((rows : List (List (List ℕ))) × (l.text ≡ commas rows ++ l.rest) × (each_of reading_of (items_of (rows_json rows)) ≡ Some l.readings.items))
    × (are_rising l.readings.items ≡ true)

abbrev pub decreases-loop-readings : goal.decreases-loop-readings
decreases-loop-readings l = length l.rest
