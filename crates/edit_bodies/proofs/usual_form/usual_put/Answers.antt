use Rattle.std.proofs.Common.{◌≡◌, ap, ◌∙◌, subst, rules}
use Rattle.std.proofs.lemmas.Option.{IfSome_then}
use Rattle.edit_bodies.proofs.UsualLemmas.{put_read}
use Rattle.edit_bodies.proofs.usual_form.usual_put.Goals as goal
use Rattle.edit_bodies.specs.Bodies.{edit_of_value}
use Rattle.edit_bodies.specs.UsualForm.{TakesPut}
use Rattle.json.specs.Lex.{tokens}

pub returns : goal.returns
returns c =
    let whole : c.in_ok-reader.reader ≡ tokens c.args.text.now = search rules in
    let takes = subst (λ ts. TakesPut ts c.in_ok-sender.sender c.in_ok-sender.readings) whole c.in_ok-sender.ensures.tokens in
    let value = put_read c.args.text.now c.in_ok-sender.sender c.in_ok-sender.readings takes in
    IfSome_then c.put_of.result c.put_of.ensures (λ edit states. ap edit_of_value value ∙ states takes.0 takes.2)
