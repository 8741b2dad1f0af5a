use Rattle.std.proofs.Common.{◌∙◌}
use Rattle.rating_tables.proofs.LineTextLemmas.{mark_there, no_mark_there}
use Rattle.logger_files.proofs.lines.without_mark.Goals as goal

pub returns-in-Some-clause-text : goal.returns-in-Some-clause-text
returns-in-Some-clause-text c = c.in-Some.ensures.cases.1 ∙ mark_there c.args.text.now c.in-Some.ensures.cases.0

pub returns-in-None-clause-text : goal.returns-in-None-clause-text
returns-in-None-clause-text c = no_mark_there c.args.text.now c.in-None.ensures.cases
