-- The first reading tells.
use Rattle.std.proofs.Common.{sym, ◌∙◌}
use Rattle.readings.specs.Halves.{joined}
use Rattle.readings.proofs.HalvesLemmas.{begins, begins_none}
use Rattle.readings.proofs.halves.Halves.begins_at.Goals as goal

pub returns-in-Some : goal.returns-in-Some
returns-in-Some c =
    begins c.args.at (joined c.args.self.now) c.in-Some.reading c.eq.result c.requires.from c.requires.rising (sym c.first.ensures ∙ c.in-Some.is) c.eq.ensures

pub returns-in-None : goal.returns-in-None
returns-in-None c = begins_none c.args.at (joined c.args.self.now) (sym c.first.ensures ∙ c.in-None.is)
