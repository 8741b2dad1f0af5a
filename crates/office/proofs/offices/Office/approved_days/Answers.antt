-- No more days are approved than the calendar has.
use Rattle.approval.proofs.CountLemmas.{approved_few}
use Rattle.history.specs.Statuses.{status_at}
use Rattle.office.proofs.offices.Office.approved_days.Goals as goal

pub returns-clause-few : goal.returns-clause-few
returns-clause-few g c =
    rw c.approved_days.ensures (approved_few (status_at c.self.inside.register.history.events c.args.site))
