use Rattle.edit_bodies.proofs.TextLemmas.{kept_if-is, reference-told}
use Rattle.edit_bodies.specs.Texts.{is_reference}
use Rattle.http_api.proofs.parameters.reference_of.Goals as goal

pub returns : goal.returns
returns c = kept_if-is is_reference _ _ c.new.result (reference-told _) c.new.ensures.range c.new.ensures.value
