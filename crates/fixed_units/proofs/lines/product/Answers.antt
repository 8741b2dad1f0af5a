-- The product fits.
use Rattle.std.proofs.Common.{◌≡◌, ◌*ℤ◌, to_z, of_z, arith}
use Rattle.std.specs.Int.{w128}
use Rattle.std.proofs.lemmas.Int.{ints, to_z-of_z}
use Rattle.fixed_units.proofs.LineLemmas.{product-fits, product-within}
use Rattle.fixed_units.proofs.lines.product.Goals as goal

pub overflow_mul-result : goal.overflow_mul-result
overflow_mul-result c =
    let rise : to_z w128 (of_z w128 c.args.rise) ≡ c.args.rise = omega (arith, ints) in
    let gone : to_z w128 (of_z w128 c.args.gone) ≡ c.args.gone = omega (arith, ints) in
    rw (rise, gone) (product-fits c.args.rise c.args.gone (record { low = c.requires.low; high = c.requires.high; some = c.requires.some; fits = c.requires.fits }))

pub returns-clause-value : goal.returns-clause-value
returns-clause-value c =
    let rise : to_z w128 (of_z w128 c.args.rise) ≡ c.args.rise = omega (arith, ints) in
    let gone : to_z w128 (of_z w128 c.args.gone) ≡ c.args.gone = omega (arith, ints) in
    let fits = product-fits c.args.rise c.args.gone (record { low = c.requires.low; high = c.requires.high; some = c.requires.some; fits = c.requires.fits }) in
    rw (rise, gone) (to_z-of_z w128 (c.args.rise *ℤ c.args.gone) fits)

pub returns-clause-low : goal.returns-clause-low
returns-clause-low c =
    let rise : to_z w128 (of_z w128 c.args.rise) ≡ c.args.rise = omega (arith, ints) in
    let gone : to_z w128 (of_z w128 c.args.gone) ≡ c.args.gone = omega (arith, ints) in
    let fits = product-fits c.args.rise c.args.gone (record { low = c.requires.low; high = c.requires.high; some = c.requires.some; fits = c.requires.fits }) in
    rw (rise, gone, to_z-of_z w128 (c.args.rise *ℤ c.args.gone) fits) ((product-within c.args.rise c.args.gone (record { low = c.requires.low; high = c.requires.high; some = c.requires.some; fits = c.requires.fits })).0)

pub returns-clause-high : goal.returns-clause-high
returns-clause-high c =
    let rise : to_z w128 (of_z w128 c.args.rise) ≡ c.args.rise = omega (arith, ints) in
    let gone : to_z w128 (of_z w128 c.args.gone) ≡ c.args.gone = omega (arith, ints) in
    let fits = product-fits c.args.rise c.args.gone (record { low = c.requires.low; high = c.requires.high; some = c.requires.some; fits = c.requires.fits }) in
    rw (rise, gone, to_z-of_z w128 (c.args.rise *ℤ c.args.gone) fits) ((product-within c.args.rise c.args.gone (record { low = c.requires.low; high = c.requires.high; some = c.requires.some; fits = c.requires.fits })).1)
