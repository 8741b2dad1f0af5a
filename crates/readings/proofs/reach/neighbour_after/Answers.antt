-- The walk on ends at the gap.
use Rattle.std.specs.Prelude.{◌≡◌, ◌*◌, pos, ◌+ℤ◌, ℤ, List, find}
use Rattle.std.proofs.Common.{arith, ap, sym, ◌∙◌, w64, to_z, of_z}
use Rattle.std.proofs.lemmas.Int.{to_z-of_z}
use Rattle.fixed_units.specs.declared.readings.Reading.{Reading}
use Rattle.readings.specs.Halves.{joined}
use Rattle.readings.specs.Readings.{before_instant, is_used}
use Rattle.readings.proofs.NearLemmas.{follow_front}
use Rattle.readings.proofs.reach.neighbour_after.Goals as goal

pub returns : goal.returns
returns c readings rising late =
    let b = c.args.b in
    let gap = pos (60 * c.args.gap) in
    let until : to_z w64 (of_z w64 c.reach_behind.result) ≡ (b +ℤ gap) +ℤ pos 1 = grind (arith, to_z-of_z) in
    c.first_used_before.ensures
    ∙ ap (λ (n : ℤ). find is_used (before_instant n (joined c.args.late.now))) until
    ∙ ap (λ (l : List Reading). find is_used (before_instant ((b +ℤ gap) +ℤ pos 1) l)) late
    ∙ sym (follow_front b gap readings rising)
