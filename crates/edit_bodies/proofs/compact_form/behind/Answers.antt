use Rattle.std.proofs.Common.{◌≡◌, rules}
use Rattle.edit_bodies.proofs.CompactLemmas.{front_behind}
use Rattle.edit_bodies.proofs.compact_form.behind.Goals as goal

pub returns-then-eq-clause-parts : goal.returns-then-eq-clause-parts
returns-then-eq-clause-parts c =
    let same : c.in_ok-first.first.now ≡ c.args.front.now = search rules in
    front_behind _ c.args.text.now c.in_ok-first.first.now c.in_ok-first.rest.now c.args.front.now c.in_ok-first.ensures.front c.in_ok-first.ensures.back same
