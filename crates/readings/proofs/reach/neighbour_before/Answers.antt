-- The walk back ends at the gap.
use Rattle.std.specs.Prelude.{◌≡◌, ◌*◌, pos, ◌-ℤ◌, ℤ, List, find, reverse}
use Rattle.std.proofs.Common.{arith, ap, sym, ◌∙◌, w64, to_z, of_z}
use Rattle.std.proofs.lemmas.Int.{to_z-of_z}
use Rattle.fixed_units.specs.declared.readings.Reading.{Reading}
use Rattle.readings.specs.Halves.{joined}
use Rattle.readings.specs.Readings.{from_instant, is_used}
use Rattle.readings.proofs.NearLemmas.{lead_back}
use Rattle.readings.proofs.reach.neighbour_before.Goals as goal

pub returns : goal.returns
returns c readings rising early =
    let a = c.args.a in
    let gap = pos (60 * c.args.gap) in
    let from : to_z w64 (of_z w64 c.reach_before.result) ≡ a -ℤ gap = grind (arith, to_z-of_z) in
    c.last_used_from.ensures
    ∙ ap (λ (n : ℤ). find is_used (reverse (from_instant n (joined c.args.early.now)))) from
    ∙ ap (λ (l : List Reading). find is_used (reverse (from_instant (a -ℤ gap) l))) early
    ∙ sym (lead_back a gap readings rising)
