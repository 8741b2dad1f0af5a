use Rattle.std.specs.Prelude.{None, Some}
use Rattle.std.proofs.Common.{refl}
use Rattle.readings.specs.Readings.{is_used}
use Rattle.readings.proofs.HalvesLemmas.{last_found}
use Rattle.readings.proofs.halves.Halves.last_used.Goals as goal

pub returns-in_default : goal.returns-in_default
returns-in_default c =
    last_found is_used c.args.self.now.left.now c.args.self.now.right.now None c.last_used-in_default.result c.in_default.ensures c.last_used-in_default.ensures

pub returns : goal.returns
returns c = last_found is_used c.args.self.now.left.now c.args.self.now.right.now (Some c.in-Some.reading) _ c.in-Some.ensures refl
