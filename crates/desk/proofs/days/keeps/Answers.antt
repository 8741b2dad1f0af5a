use Rattle.std.proofs.Common.{◌∙◌, sym}
use Rattle.desk.proofs.DailyLemmas.{is_kept}
use Rattle.desk.proofs.days.keeps.Goals as goal

pub returns : goal.returns
returns g c = c.is_some.ensures ∙ sym (is_kept _ _ _ c.station.ensures)
