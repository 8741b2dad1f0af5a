use Rattle.std.proofs.Common.{arith}
use Rattle.std.proofs.lemmas.Int.{ints}
use Rattle.std.proofs.lemmas.Result.{on_ok_weaker}
use Rattle.sheets.proofs.SizeLemmas.{value-few}
use Rattle.sheets.proofs.parts.write_units.Goals as goal

pub returns-clause-size : goal.returns-clause-size
returns-clause-size c =
    on_ok_weaker c.write_published.result
    (λ told. value-few (record { units = c.args.units; places = c.args.places }) (omega (arith, ints, c.ranges.units)) c.ranges.places.fits)
    c.write_published.ensures.ok
