-- What the disk has, and what a stop may leave.
use Rattle.office.proofs.DoubtLemmas.{left_now, left_images}
use Rattle.office.proofs.laws.an_office_stands_on_its_disk.Goals as goal

pub returns-clause-now : goal.returns-clause-now
returns-clause-now g c =
    rw (← c.office.view_is) (left_now c.office.inside.register.history c.office.inside.doubt c.office.inside.journal c.office.invariant)

pub returns-clause-images : goal.returns-clause-images
returns-clause-images g c =
    rw (← c.office.view_is) (left_images c.office.inside.register.history c.office.inside.doubt c.office.inside.journal c.office.invariant)
