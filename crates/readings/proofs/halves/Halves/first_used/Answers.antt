use Rattle.std.specs.Prelude.{None, Some}
use Rattle.std.proofs.Common.{refl}
use Rattle.readings.specs.Readings.{is_used}
use Rattle.readings.proofs.HalvesLemmas.{first_found}
use Rattle.readings.proofs.halves.Halves.first_used.Goals as goal

pub returns-in_default : goal.returns-in_default
returns-in_default c =
    first_found is_used c.args.self.now.left.now c.args.self.now.right.now None c.first_used-in_default.result c.in_default.ensures c.first_used-in_default.ensures

pub returns : goal.returns
returns c = first_found is_used c.args.self.now.left.now c.args.self.now.right.now (Some c.in-Some.reading) _ c.in-Some.ensures refl
