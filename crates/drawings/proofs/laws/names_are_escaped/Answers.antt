use Rattle.drawings.proofs.EscapeLemmas.{escaped_plain}
use Rattle.drawings.proofs.laws.names_are_escaped.Goals as goal

pub returns : goal.returns
returns c name = escaped_plain name
