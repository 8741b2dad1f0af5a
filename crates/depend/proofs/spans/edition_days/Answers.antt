-- They are the day before, and that of the next edition or the one behind the last stamp's.
use Rattle.std.specs.Prelude.{◌≡◌, ℕ, List, ℤ, pos, ◌-ℤ◌}
use Rattle.std.proofs.Common.{arith, to_z, of_z, w32, subst, sym}
use Rattle.std.proofs.lemmas.Int.{ints}
use Rattle.civil_days.specs.Starts.{IsIn, IsZone}
use Rattle.fixed_units.specs.Quantities.{last_stamp}
use Rattle.depend.specs.Compared.{IsAfter}
use Rattle.depend.proofs.CoverLemmas.{IsBefore, before_from}
use Rattle.depend.proofs.EditionLemmas.{edition_cover, last_cover, lent_next, lent_none}
use Rattle.depend.proofs.spans.edition_days.Goals as goal

pub returns-in-Some : goal.returns-in-Some
returns-in-Some c =
    let low = c.get.ensures.range.low in
    let high = c.get.ensures.range.high in
    let number : ℤ = to_z w32 (of_z w32 (to_z w32 (of_z w32 c.get.result) -ℤ pos 1)) in
    let e : number ≡ c.args.day -ℤ pos 1 = (let v = c.get.ensures.value in omega (arith, ints)) in
    let before : IsBefore c.args.day c.clipped-before.result =
    before_from c.args.day number c.clipped-before.result c.get.ensures.range e
    (record { range = c.clipped-before.ensures.range; inside = c.clipped-before.ensures.inside; before = c.clipped-before.ensures.before; behind = c.clipped-before.ensures.behind }) in
    edition_cover c.args.station.now.station c.args.day c.clipped-before.result c.day_itself.result c.in-Some.next.now c.requires c.get.ensures.range before
    (lent_next c.edition_after.result _ c.in-Some.next c.edition_after.ensures c.in-Some.is) c.day_itself.ensures.value

pub returns-in-None : goal.returns-in-None
returns-in-None c =
    let low = c.get.ensures.range.low in
    let high = c.get.ensures.range.high in
    let number : ℤ = to_z w32 (of_z w32 (to_z w32 (of_z w32 c.get.result) -ℤ pos 1)) in
    let e : number ≡ c.args.day -ℤ pos 1 = (let v = c.get.ensures.value in omega (arith, ints)) in
    let before : IsBefore c.args.day c.clipped-before.result =
    before_from c.args.day number c.clipped-before.result c.get.ensures.range e
    (record { range = c.clipped-before.ensures.range; inside = c.clipped-before.ensures.inside; before = c.clipped-before.ensures.before; behind = c.clipped-before.ensures.behind }) in
    last_cover c.args.station.now.station c.args.day c.clipped-before.result c.day_behind_the_last_stamp.result c.requires c.get.ensures.range before
    (lent_none c.edition_after.result _ c.edition_after.ensures c.in-None.is)
    (subst (λ (z : List ℕ). (own : ℤ) × IsIn z own last_stamp × IsAfter own c.day_behind_the_last_stamp.result) c.zone.ensures c.day_behind_the_last_stamp.ensures)

pub day_behind_the_last_stamp-requires : goal.day_behind_the_last_stamp-requires
day_behind_the_last_stamp-requires c = subst IsZone (sym c.zone.ensures) c.requires.zone_is
