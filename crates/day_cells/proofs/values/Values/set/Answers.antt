use Rattle.std.specs.Prelude.{◌≡◌, ◌+◌, ◌-◌, ◌<◌, length, set, vec_capacity}
use Rattle.std.proofs.Common.{arith, ap, sym, ◌∙◌, get_or}
use Rattle.std.proofs.lemmas.List.{length-map, get_or_default}
use Rattle.day_cells.specs.Values.{value_in, values_in}
use Rattle.day_cells.proofs.ValueLemmas.{first_few, first_value, next_value}
use Rattle.day_cells.proofs.values.Values.set.Goals as goal

pub push_reserved-requires : goal.push_reserved-requires
push_reserved-requires c =
    let places = c.self.inside.places.items in
    let published = c.self.inside.published.items in
    let day = c.args.day in
    let l : day < length places = rw (← c.self.view_is, length-map places (value_in published)) at c.requires in
    let blank : get_or places day 0 ≡ 0 = sym (get_or_default places day c.index.result.now 0 l) ∙ sym c.index.ensures ∙ c.if-place-eq0.true in
    let few = first_few places published (vec_capacity c.self.inside.published) day c.args.value c.self.invariant l blank in
    let enough = c.self.invariant.enough in
    let same = c.self.inside.published.ok.0 in
    omega (arith, few, enough, same)

pub overflow_cast-len : goal.overflow_cast-len
overflow_cast-len c =
    let places = c.self.inside.places.items in
    let published = c.self.inside.published.items in
    let day = c.args.day in
    let l : day < length places = rw (← c.self.view_is, length-map places (value_in published)) at c.requires in
    let blank : get_or places day 0 ≡ 0 = sym (get_or_default places day c.index.result.now 0 l) ∙ sym c.index.ensures ∙ c.if-place-eq0.true in
    let less = first_few places published (vec_capacity c.self.inside.published) day c.args.value c.self.invariant l blank in
    let few = c.self.invariant.few in
    let same = c.self.inside.published.ok.0 in
    omega (arith, less, few, same, c.push_reserved.ensures.len, c.len.ensures)

pub returns-then-place-eq0 : goal.returns-then-place-eq0
returns-then-place-eq0 c =
    let places = c.self.inside.places.items in
    let published = c.self.inside.published.items in
    let day = c.args.day in
    let value = c.args.value in
    let l : day < length places = rw (← c.self.view_is, length-map places (value_in published)) at c.requires in
    let blank : get_or places day 0 ≡ 0 = sym (get_or_default places day c.index.result.now 0 l) ∙ sym c.index.ensures ∙ c.if-place-eq0.true in
    let same = c.self.inside.published.ok.0 in
    let number : c.len.result ≡ length published + 1 = omega (arith, same, c.push_reserved.ensures.len, c.len.ensures) in
    ap (λ n. values_in c.push_reserved.new.self.items (set places day n)) number
    ∙ ap (λ p. values_in p (set places day (length published + 1))) c.push_reserved.ensures.items
    ∙ first_value places published (vec_capacity c.self.inside.published) day value c.self.invariant l blank
    ∙ ap (λ v. set v day value) c.self.view_is

pub returns-else-place-eq0 : goal.returns-else-place-eq0
returns-else-place-eq0 c =
    let places = c.self.inside.places.items in
    let published = c.self.inside.published.items in
    let day = c.args.day in
    let value = c.args.value in
    let l : day < length places = rw (← c.self.view_is, length-map places (value_in published)) at c.requires in
    let here : c.index.result.now ≡ get_or places day 0 = c.index.ensures ∙ get_or_default places day c.index.result.now 0 l in
    let some : 0 < get_or places day 0 = let n = c.if-place-eq0.false in omega (arith, n, here) in
    ap (λ n. values_in (set published (n - 1) value) places) here
    ∙ next_value places published (vec_capacity c.self.inside.published) day value c.self.invariant some
    ∙ ap (λ v. set v day value) c.self.view_is
