-- What the disk has where nothing is in doubt, and what a stop may leave.
use Rattle.office.proofs.DoubtLemmas.{exactly_images, exactly_now}
use Rattle.office.proofs.EditLemmas.{taken_settles}
use Rattle.office.proofs.laws.an_accepted_edit_leaves_no_doubt.Goals as goal

pub returns-clause-settled : goal.returns-clause-settled
returns-clause-settled g c old new edit number taken = taken_settles old edit new number taken

pub returns-clause-now : goal.returns-clause-now
returns-clause-now g c =
    rw (← c.office.view_is) (exactly_now c.office.inside.register.history c.office.inside.doubt c.office.inside.journal c.office.invariant)

pub returns-clause-images : goal.returns-clause-images
returns-clause-images g c =
    rw (← c.office.view_is) (exactly_images c.office.inside.register.history c.office.inside.doubt c.office.inside.journal c.office.invariant)
