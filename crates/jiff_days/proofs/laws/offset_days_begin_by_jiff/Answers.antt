use Rattle.jiff_days.proofs.StartLemmas.{starts_by_offset}
use Rattle.jiff_days.proofs.laws.offset_days_begin_by_jiff.Goals as goal

pub returns : goal.returns
returns c text offset day midnight answer clock calendar is converted = starts_by_offset text offset midnight day answer clock calendar is converted
