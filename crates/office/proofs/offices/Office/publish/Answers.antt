-- A publication leaves the journal.
use Rattle.std.specs.Prelude.{◌∷◌, []}
use Rattle.register.specs.Asked.{day_of}
use Rattle.office.proofs.DoubtLemmas.{publish_stands}
use Rattle.office.proofs.offices.Office.publish.Goals as goal

pub invariant_of-self : goal.invariant_of-self
invariant_of-self g c =
    publish_stands c.self.inside.register c.publish.new.self c.self.inside.doubt c.self.inside.journal c.self.invariant c.publish.result
    (day_of c.args.done.job ∷ []) c.publish.ensures.published c.publish.ensures.others
