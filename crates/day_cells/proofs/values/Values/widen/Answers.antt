use Rattle.std.specs.Prelude.{◌≡◌, ◌+◌, ◌<◌, ◌≤◌, ◌++◌, length, replicate, vec_capacity}
use Rattle.std.proofs.Common.{arith, ◌∙◌}
use Rattle.std.proofs.lemmas.List.{length-map}
use Rattle.day_cells.specs.Values.{value_in}
use Rattle.day_cells.proofs.ValueLemmas.{values_widened, widened_kept}
use Rattle.day_cells.proofs.values.Values.widen.Goals as goal

pub invariant_of-self : goal.invariant_of-self
invariant_of-self c =
    let places = c.self.inside.places.items in
    let published = c.self.inside.published.items in
    let front = c.args.front in
    let back = c.args.back in
    let more = vec_capacity c.in_ok-published.published in
    let a : c.in_ok-places.places.items ≡ (replicate front 0 ++ places) ++ replicate back 0 = rw c.deref.ensures.value at c.in_ok-places.ensures in
    let b : c.in_ok-published.published.items ≡ published = c.in_ok-published.ensures.items ∙ c.deref-2.ensures.value in
    let few : front + length places + back < 4_294_967_296 = rw (← c.self.view_is, length-map places (value_in published)) at c.requires in
    let room = c.in_ok-published.ensures.room in
    let long : length c.in_ok-places.places.items ≤ more = let same = c.in_ok-places.places.ok.0 in omega (arith, room, c.len.ensures, same) in
    let long : length ((replicate front 0 ++ places) ++ replicate back 0) ≤ more = rw a at long in
    rw (a, b) (widened_kept places published front back (vec_capacity c.self.inside.published) more c.self.invariant long few)

pub returns-clause-ok : goal.returns-clause-ok
returns-clause-ok c =
    let places = c.self.inside.places.items in
    let published = c.self.inside.published.items in
    let a : c.in_ok-places.places.items ≡ (replicate c.args.front 0 ++ places) ++ replicate c.args.back 0 = rw c.deref.ensures.value at c.in_ok-places.ensures in
    let b : c.in_ok-published.published.items ≡ published = c.in_ok-published.ensures.items ∙ c.deref-2.ensures.value in
    rw (← c.self.view_is, a, b) (values_widened places published c.args.front c.args.back)
