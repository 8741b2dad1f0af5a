use Rattle.std.proofs.Common.{◌≡◌, ◌∷◌, [], ap, ◌∙◌, rules}
use Rattle.std.proofs.lemmas.Option.{IfSome_then}
use Rattle.edit_bodies.proofs.CompactLemmas.{put_compact}
use Rattle.edit_bodies.proofs.compact_form.put_behind.Goals as goal
use Rattle.edit_bodies.specs.Bodies.{edit_of_value}
use Rattle.edit_bodies.specs.CompactForm.{sender_spelled}

pub returns-then-is_closed : goal.returns-then-is_closed
returns-then-is_closed c =
    let reads = c.in_ok-readings.ensures.rows in
    let end : c.in_ok-readings.rest.now ≡ 125 ∷ [] = search rules in
    let value = put_compact c.args.text.now c.in_ok-behind.field-0.now c.in_ok-readings.rest.now c.in_ok-sender.sender reads.0 c.in_ok-readings.readings
    (c.in_ok-sender.ensures ∙ ap (sender_spelled c.in_ok-sender.sender) c.in_ok-behind.ensures.parts) reads.1 end reads.2 in
    IfSome_then c.put_of.result c.put_of.ensures (λ edit states. ap edit_of_value value ∙ states reads.0 reads.2)
