use Rattle.jiff_days.proofs.TextLemmas.{read_is_no_offset, zone_read}
use Rattle.jiff_days.proofs.laws.zones_are_known_to_jiff.Goals as goal

pub returns-clause-rule : goal.returns-clause-rule
returns-clause-rule c = zone_read

pub returns-clause-apart : goal.returns-clause-apart
returns-clause-apart c = read_is_no_offset
