-- A settlement leaves the journal.
use Rattle.office.proofs.DoubtLemmas.{settle_stands}
use Rattle.office.proofs.offices.Office.settle.Goals as goal

pub invariant_of-self : goal.invariant_of-self
invariant_of-self g c =
    settle_stands c.self.inside.register c.settle.new.self c.self.inside.doubt c.self.inside.journal c.self.invariant c.settle.result
    c.settle.ensures.history c.settle.ensures.partly
