use Rattle.std.specs.Prelude.{◌≡◌, ◌<ℤ◌, [], ◌++◌, List}
use Rattle.std.proofs.Common.{ap, sym, ◌∙◌, subst, arith}
use Rattle.std.proofs.lemmas.Int.{ints}
use Rattle.rising.specs.Ends.{last}
use Rattle.fixed_units.specs.declared.readings.Reading.{Reading}
use Rattle.readings.specs.Readings.{IsRising}
use Rattle.readings.proofs.PuttingLemmas.{put_all_behind, rises_on, nothing_last}
use Rattle.readings.proofs.lists.Readings.ends_before.Goals as goal

pub returns-in-Some-Some : goal.returns-in-Some-Some
returns-in-Some-Some c h =
    let rs = c.args.self.now.list in
    let list = c.args.list.now in
    let x = c.in-Some-Some.last in
    let y = c.in-Some-Some.first.now in
    let rising : IsRising rs = subst IsRising c.halves.ensures.list c.halves.ensures.rising in
    let less : x.at <ℤ y.at = let l = c.lt.ensures in grind (arith, ints, l, h) in
    put_all_behind list rs (rises_on rs list x y rising c.requires (sym (c.in-Some-Some.ensures ∙ ap last c.halves.ensures.list)) (sym c.in-Some-Some.ensures'.value) less)

pub returns-in_default-2 : goal.returns-in_default-2
returns-in_default-2 c h =
    let rs = c.args.self.now.list in
    let list = c.args.list.now in
    let none : rs ≡ [] = nothing_last rs (ap last (sym c.halves.ensures.list) ∙ sym c.last.ensures ∙ c.in_default.is-0) in
    put_all_behind list rs (subst (λ (l : List Reading). IsRising (l ++ list)) (sym none) c.requires)
