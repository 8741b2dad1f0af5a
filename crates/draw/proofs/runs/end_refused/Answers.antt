-- Any cause but want of memory is told.
use Rattle.std.proofs.Common.{sym}
use Rattle.draw.proofs.RunLemmas.{end_told}
use Rattle.draw.proofs.runs.end_refused.Goals as goal

pub returns-in_default : goal.returns-in_default
returns-in_default c = sym (end_told c.args.fault.why c.args.fault c.in_default.not-NoMemory)
