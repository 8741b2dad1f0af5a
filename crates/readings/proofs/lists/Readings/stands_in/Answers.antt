-- The reading in the place tells by its instant.
use Rattle.std.specs.Prelude.{◌≡◌, ◌≤◌, ◌<◌, Some, slice_get, length}
use Rattle.std.proofs.Common.{arith, subst}
use Rattle.rising.specs.Lists.{Kept}
use Rattle.fixed_units.specs.declared.readings.Reading.{Reading}
use Rattle.readings.specs.Readings.{IsRising}
use Rattle.readings.proofs.PuttingLemmas.{told_there, told_behind}
use Rattle.readings.proofs.lists.Readings.stands_in.Goals as goal

pub returns-then-place-len-clause-here : goal.returns-then-place-len-clause-here
returns-then-place-len-clause-here c =
    (told_there c.args.at c.args.self.now.list c.args.place c.get.result c.eq.result
    (subst (λ (k : Kept Reading). IsRising k.list) c.self.view_is c.self.invariant) c.requires
    (subst (λ (k : Kept Reading). slice_get k.list c.args.place ≡ Some c.get.result) c.self.view_is c.get.ensures)
    (subst (λ (k : Kept Reading). c.args.place < length k.list) c.self.view_is (omega (arith, c.len.ensures.value, c.if-place-len.true))) c.eq.ensures).here

pub returns-then-place-len-clause-elsewhere : goal.returns-then-place-len-clause-elsewhere
returns-then-place-len-clause-elsewhere c =
    (told_there c.args.at c.args.self.now.list c.args.place c.get.result c.eq.result
    (subst (λ (k : Kept Reading). IsRising k.list) c.self.view_is c.self.invariant) c.requires
    (subst (λ (k : Kept Reading). slice_get k.list c.args.place ≡ Some c.get.result) c.self.view_is c.get.ensures)
    (subst (λ (k : Kept Reading). c.args.place < length k.list) c.self.view_is (omega (arith, c.len.ensures.value, c.if-place-len.true))) c.eq.ensures).elsewhere

pub returns-else-place-len-clause-elsewhere : goal.returns-else-place-len-clause-elsewhere
returns-else-place-len-clause-elsewhere c =
    λ e. told_behind c.args.at c.args.self.now.list c.args.place
    (subst (λ (k : Kept Reading). IsRising k.list) c.self.view_is c.self.invariant) c.requires
    (subst (λ (k : Kept Reading). length k.list ≤ c.args.place) c.self.view_is (omega (arith, c.len.ensures.value, c.if-place-len.false)))
