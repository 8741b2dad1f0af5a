use Rattle.std.proofs.Common.{◌≡◌}
use Rattle.std.specs.Int.{w128}
use Rattle.std.proofs.lemmas.Int.{to_z-of_z}
use Rattle.fixed_units.specs.Published.{whole_digits, published, published_digits}
use Rattle.fixed_units.proofs.NearestLemmas.{published-IsPublished}
use Rattle.fixed_units.proofs.published.publish.Goals as goal

pub returns-clause-value : goal.returns-clause-value
unfolding published
returns-clause-value c =
    let num = to_z-of_z w128 c.args.num c.ranges.num in
    let den = to_z-of_z w128 c.args.den c.ranges.den in
    let digits : c.whole_digits.result ≡ whole_digits c.args.num c.args.den = rw (num, den) at c.whole_digits.ensures.value in
    let value : c.publish_digits.result ≡ published_digits c.args.array.now c.whole_digits.result c.args.num c.args.den = rw (num, den) at c.publish_digits.ensures in
    rw digits at value

pub returns-clause-nearest : goal.returns-clause-nearest
returns-clause-nearest c =
    rw (returns-clause-value c) (published-IsPublished c.args.array.now c.args.num c.args.den c.requires.positive c.requires.low c.requires.high)
