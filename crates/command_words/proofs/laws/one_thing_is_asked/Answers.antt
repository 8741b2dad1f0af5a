use Rattle.command_words.proofs.WordLemmas.{one_is_asked}
use Rattle.command_words.proofs.laws.one_thing_is_asked.Goals as goal

pub returns : goal.returns
returns c = one_is_asked
