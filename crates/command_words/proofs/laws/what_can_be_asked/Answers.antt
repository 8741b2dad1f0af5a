use Rattle.command_words.proofs.LawLemmas.{each_is_asked, nothing_else}
use Rattle.command_words.proofs.laws.what_can_be_asked.Goals as goal

pub returns-clause-nothing_else : goal.returns-clause-nothing_else
returns-clause-nothing_else c = nothing_else

pub returns-clause-each : goal.returns-clause-each
returns-clause-each c = each_is_asked
