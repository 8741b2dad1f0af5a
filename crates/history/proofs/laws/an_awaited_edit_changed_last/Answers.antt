use Rattle.history.proofs.LastChangeLemmas.{awaits_last_change}
use Rattle.history.proofs.laws.an_awaited_edit_changed_last.Goals as goal

pub returns : goal.returns
returns c events site day number h = awaits_last_change site day events number h
