use Rattle.fixed_units.proofs.LineLemmas.{line-first, line-last}
use Rattle.fixed_units.proofs.lines.lines_meet_their_ends.Goals as goal

pub returns : goal.returns
returns c = record { first = line-first; last = line-last }
