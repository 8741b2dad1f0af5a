-- The area comes to the sum, which keeps to the range of the values.
use Rattle.std.proofs.Common.{◌≡◌, ℕ, ◌≤◌, ◌+◌, ℤ, ◌+ℤ◌, Some, ap, sym, to_z, of_z, arith, ◌∙◌}
use Rattle.std.specs.Int.{w128}
use Rattle.std.proofs.lemmas.Int.{ints}
use Rattle.fixed_units.specs.Calendar.{longest_day}
use Rattle.fixed_units.specs.Quantities.{most_millionths}
use Rattle.day_inputs.specs.declared.day_inputs.DayParts.{DayParts}
use Rattle.daily_values.specs.declared.sums.Sum.{Sum}
use Rattle.daily_values.specs.DayValue.{Point, pair_seconds, seconds_between}
use Rattle.daily_values.specs.Figures.{IsAreaWithin, IsSumWithin}
use Rattle.daily_values.proofs.AreaLemmas.{area-some, seconds-some, sum-within}
use Rattle.daily_values.proofs.sums.add_pair.Goals as goal

-- where both values are there, the sum with the area more fits
whole-is : (day : DayParts) (left right : Point) (from to : ℤ) (sum : Sum) (seconds : ℕ) (area : ℤ) → left.1 ≡ Some from → right.1 ≡ Some to
    → sum.covered + pair_seconds day (left, right) ≤ longest_day → seconds ≡ seconds_between day left.0 right.0
    → IsSumWithin most_millionths most_millionths sum → IsAreaWithin most_millionths most_millionths seconds area
    → to_z w128 (of_z w128 (to_z w128 (of_z w128 sum.twice) +ℤ to_z w128 (of_z w128 area))) ≡ sum.twice +ℤ area
whole-is day left right from to sum seconds area e f room is range fits =
    let both = seconds-some day left right from to e f in
    let few : sum.covered + seconds ≤ longest_day = omega (arith, room, is, both) in
    omega (arith, ints, few, range.low, range.high, fits.low, fits.high)

pub returns-clause-twice : goal.returns-clause-twice
returns-clause-twice c =
    let whole = whole-is c.args.parts.now c.args.left.now c.args.right.now c.in-Some.from c.in-Some-1₀.to c.args.sum.now c.args.seconds c.twice_area-twice.result c.in-Some.is c.in-Some-1₀.is c.requires.room c.requires.seconds c.requires.fits c.twice_area-twice.ensures.fits in
    let some = area-some c.args.parts.now c.args.left.now c.args.right.now c.in-Some.from c.in-Some-1₀.to c.in-Some.is c.in-Some-1₀.is in
    rw whole (ap (λ n. c.args.sum.now.twice +ℤ n) (c.twice_area-twice.ensures.area ∙ sym some))

pub returns-clause-within : goal.returns-clause-within
returns-clause-within c =
    let whole = whole-is c.args.parts.now c.args.left.now c.args.right.now c.in-Some.from c.in-Some-1₀.to c.args.sum.now c.args.seconds c.twice_area-twice.result c.in-Some.is c.in-Some-1₀.is c.requires.room c.requires.seconds c.requires.fits c.twice_area-twice.ensures.fits in
    λ below above h k s.
    let from = rw c.in-Some.is at h in
    let to = rw c.in-Some-1₀.is at k in
    rw whole (sum-within below above c.args.sum.now.covered c.args.seconds c.args.sum.now.twice c.twice_area-twice.result s (c.twice_area-twice.ensures.within below above from to))
