-- What is found are the ends.
use Rattle.std.proofs.Common.{◌∙◌}
use Rattle.day_inputs.proofs.WindowEnds.{ends_are}
use Rattle.day_inputs.proofs.making.ends.Goals as goal

pub returns : goal.returns
returns c = c.found_ends.ensures ∙ ends_are c.args.window.now
