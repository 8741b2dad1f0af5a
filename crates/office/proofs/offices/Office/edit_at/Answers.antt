-- No edit is lent exactly where none has the number.
use Rattle.office.proofs.NumberLemmas.{none_lent}
use Rattle.office.proofs.offices.Office.edit_at.Goals as goal

pub returns-clause-none : goal.returns-clause-none
returns-clause-none g c =
    rw (← c.self.view_is) (none_lent _ c.edit_at.result c.self.inside.register.history.events c.args.number c.edit_at.ensures)
