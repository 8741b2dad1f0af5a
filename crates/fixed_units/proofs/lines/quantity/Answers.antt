-- A quantity fits, and is in range.
use Rattle.std.proofs.Common.{◌≡◌, ◌∙◌, to_z, of_z, arith}
use Rattle.std.specs.Int.{w64, w128}
use Rattle.std.proofs.lemmas.Int.{ints}
use Rattle.fixed_units.proofs.lines.quantity.Goals as goal

pub of_millionths-requires : goal.of_millionths-requires
of_millionths-requires c =
    let same : to_z w64 (of_z w64 (to_z w128 (of_z w128 c.args.millionths))) ≡ c.args.millionths = omega (arith, ints) in
    rw same c.requires

pub returns : goal.returns
returns c =
    let same : to_z w64 (of_z w64 (to_z w128 (of_z w128 c.args.millionths))) ≡ c.args.millionths = omega (arith, ints) in
    c.of_millionths.ensures ∙ same
