-- A day farther away lies more than 20 hours from the time.
use Rattle.std.specs.Prelude.{◌≡◌, ℤ, pos, ◌+ℤ◌, ◌-ℤ◌}
use Rattle.std.proofs.Common.{arith, to_z, of_z, w32}
use Rattle.std.proofs.lemmas.Int.{ints}
use Rattle.fixed_units.specs.Quantities.{IsDay}
use Rattle.depend.proofs.CoverLemmas.{near_cover, before_from, after_from}
use Rattle.depend.proofs.spans.near_days.Goals as goal

pub returns : goal.returns
returns c =
    let low = c.get-from.ensures.range.low in
    let high = c.get-from.ensures.range.high in
    let low' = c.get-until.ensures.range.low in
    let high' = c.get-until.ensures.range.high in
    let from : IsDay c.day_of.result = c.get-from.ensures.range in
    let until : IsDay c.day_of-2.result = c.get-until.ensures.range in
    let number : ℤ = to_z w32 (of_z w32 (to_z w32 (of_z w32 c.get-from.result) -ℤ pos 1)) in
    let other : ℤ = to_z w32 (of_z w32 (to_z w32 (of_z w32 c.get-until.result) +ℤ pos 1)) in
    let before : number ≡ c.day_of.result -ℤ pos 1 = (let e = c.get-from.ensures.value in omega (arith, ints)) in
    let after : other ≡ c.day_of-2.result +ℤ pos 1 = (let e = c.get-until.ensures.value in omega (arith, ints)) in
    near_cover c.args.zone.now c.day_of.result c.day_of-2.result c.clipped.result c.clipped-2.result c.args.first c.args.last c.requires.zone
    c.day_of.ensures.holds c.day_of-2.ensures.holds
    (before_from c.day_of.result number c.clipped.result from before
    (record { range = c.clipped.ensures.range; inside = c.clipped.ensures.inside; before = c.clipped.ensures.before; behind = c.clipped.ensures.behind }))
    (after_from c.day_of-2.result other c.clipped-2.result until after
    (record { range = c.clipped-2.ensures.range; inside = c.clipped-2.ensures.inside; before = c.clipped-2.ensures.before; behind = c.clipped-2.ensures.behind }))
