-- What the disk has, and what a stop may leave.
use Rattle.office.proofs.DoubtLemmas.{left_now, left_images}
use Rattle.office.proofs.offices.Office.close.Goals as goal

pub returns-clause-now : goal.returns-clause-now
returns-clause-now g c =
    rw (c.close.ensures, ← c.self.view_is) (left_now c.self.inside.register.history c.self.inside.doubt c.self.inside.journal c.self.invariant)

pub returns-clause-images : goal.returns-clause-images
returns-clause-images g c =
    rw (c.close.ensures, ← c.self.view_is) (left_images c.self.inside.register.history c.self.inside.doubt c.self.inside.journal c.self.invariant)
