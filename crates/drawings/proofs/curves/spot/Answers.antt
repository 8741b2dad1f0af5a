use Rattle.std.proofs.Common.{◌≡◌, to_z, of_z, arith}
use Rattle.std.specs.Int.{w64}
use Rattle.std.proofs.lemmas.Int.{ints}
use Rattle.drawings.proofs.curves.spot.Goals as goal

pub returns-clause-places : goal.returns-clause-places
returns-clause-places c =
    let instant : to_z w64 (of_z w64 c.args.sample.now.at) ≡ c.args.sample.now.at = omega (arith, ints) in
    let value : to_z w64 (of_z w64 c.args.sample.now.value) ≡ c.args.sample.now.value = omega (arith, ints) in
    record { across = rw instant at c.in_ok-x.ensures.near; up = rw value at c.in_ok-y.ensures.near }
