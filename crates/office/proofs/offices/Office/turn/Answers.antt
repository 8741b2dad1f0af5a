-- A turn leaves the journal.
use Rattle.register.specs.Registered.{first_unclaimed}
use Rattle.office.proofs.DoubtLemmas.{turn_stands}
use Rattle.office.proofs.offices.Office.turn.Goals as goal

pub invariant_of-self : goal.invariant_of-self
invariant_of-self g c =
    turn_stands c.self.inside.register c.turn.new.self c.self.inside.doubt c.self.inside.journal c.self.invariant c.turn.result
    (first_unclaimed c.self.inside.register) c.turn.ensures.history c.turn.ensures.err
