use Rattle.edit_bodies.proofs.TextLemmas.{initials-told, kept_if-is}
use Rattle.edit_bodies.specs.Texts.{are_initials}
use Rattle.http_api.proofs.parameters.by_of.Goals as goal

pub returns : goal.returns
returns c = kept_if-is are_initials _ _ c.new.result (initials-told _) c.new.ensures.range c.new.ensures.value
