-- The product fits.
use Rattle.std.proofs.Common.{◌≡◌, ◌∙◌, ◌*ℤ◌, to_z, of_z, arith}
use Rattle.std.specs.Int.{w64}
use Rattle.std.proofs.lemmas.Int.{ints, to_z-of_z}
use Rattle.fixed_units.proofs.LineLemmas.{small-product-fits}
use Rattle.fixed_units.proofs.lines.risen_little.Goals as goal

pub returns : goal.returns
returns c =
    let rise : to_z w64 (of_z w64 c.args.rise) ≡ c.args.rise = omega (arith, ints) in
    let gone : to_z w64 (of_z w64 c.args.gone) ≡ c.args.gone = omega (arith, ints) in
    let run : to_z w64 (of_z w64 c.args.run) ≡ c.args.run = omega (arith, ints) in
    let same : to_z w64 (of_z w64 c.div_small.result) ≡ c.div_small.result = omega (arith, ints) in
    let part = c.requires.part in
    let small = c.requires.small in
    let fits = small-product-fits c.args.rise c.args.gone (record { low = c.requires.low; high = c.requires.high; some = c.requires.some; fits = omega (arith, ints, part, small) }) in
    let value = rw (rise, gone, run, to_z-of_z w64 (c.args.rise *ℤ c.args.gone) fits) at c.div_small.ensures in
    same ∙ value
