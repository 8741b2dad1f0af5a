use Rattle.std.proofs.Common.{◌∙◌}
use Rattle.rating_tables.proofs.LineTextLemmas.{return_there, no_return_there}
use Rattle.logger_files.proofs.lines.without_return.Goals as goal

pub returns-in-Some : goal.returns-in-Some
returns-in-Some c = c.in-Some.ensures.cases.1 ∙ return_there c.args.line.now c.in-Some.ensures.cases.0

pub returns-in-None : goal.returns-in-None
returns-in-None c = no_return_there c.args.line.now c.in-None.ensures.cases
