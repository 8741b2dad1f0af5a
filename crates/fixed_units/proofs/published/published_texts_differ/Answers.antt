use Rattle.fixed_units.proofs.TextLemmas.{text-unique}
use Rattle.fixed_units.proofs.published.published_texts_differ.Goals as goal

pub returns : goal.returns
returns c = text-unique
