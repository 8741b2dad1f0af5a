use Rattle.std.proofs.Common.{◌≡◌, ◌∷◌, [], ap, ◌∙◌, rules}
use Rattle.std.proofs.lemmas.Option.{IfSome_then}
use Rattle.edit_bodies.proofs.CompactLemmas.{review_compact}
use Rattle.edit_bodies.proofs.compact_form.review_behind.Goals as goal
use Rattle.edit_bodies.specs.Bodies.{edit_of_value}

pub returns-then-is_closed : goal.returns-then-is_closed
returns-then-is_closed c =
    let end : c.in_ok-to.rest.now ≡ 125 ∷ [] = search rules in
    let value = review_compact c.args.text.now c.in_ok-sender.rest.now c.in_ok-from.from.now c.in_ok-from.rest.now c.in_ok-to.to.now c.in_ok-to.rest.now c.in_ok-sender.sender
    c.in_ok-sender.ensures c.in_ok-from.ensures c.in_ok-to.ensures end in
    IfSome_then c.review_of.result c.review_of.ensures (λ edit states. ap edit_of_value value ∙ states)
