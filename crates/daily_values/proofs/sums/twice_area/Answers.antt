-- Values times seconds: how great an area is, and none where there are no seconds.
use Rattle.std.proofs.Common.{◌≡◌, ℕ, ◌<◌, ◌^◌, ℤ, pos, neg_ℤ, ◌+ℤ◌, ◌*ℤ◌, FitsSigned, to_z, of_z, arith}
use Rattle.std.specs.Int.{w64, w128}
use Rattle.std.proofs.lemmas.Int.{ints, clamps, to_z-of_z}
use Rattle.fixed_units.specs.Quantities.{IsMicro, most_millionths}
use Rattle.daily_values.proofs.AreaLemmas.{area-fits, area-is, area-none, area-within, day-met}
use Rattle.daily_values.proofs.sums.twice_area.Goals as goal

-- the product as it is computed: it fits, and is that of the two values and the seconds
computed : (x y g h a m : ℤ) (n : ℕ) → IsMicro x → IsMicro y → g ≡ x → h ≡ y → a ≡ to_z w64 (of_z w64 (to_z w64 (of_z w64 g) +ℤ to_z w64 (of_z w64 h))) → m ≡ pos n → n < 2 ^ 32
    → FitsSigned w128 (to_z w128 (of_z w128 a) *ℤ to_z w128 (of_z w128 m))
    × (to_z w128 (of_z w128 (to_z w128 (of_z w128 a) *ℤ to_z w128 (of_z w128 m))) ≡ (x +ℤ y) *ℤ pos n)
computed x y g h a m n p q e f k s few =
    let sum : to_z w128 (of_z w128 a) ≡ x +ℤ y =
    omega (arith, ints, e, f, k, p.low, p.high, q.low, q.high) in
    let seconds : to_z w128 (of_z w128 m) ≡ pos n = omega (arith, ints, s, few) in
    let fits = area-fits x y n p q few in
    (rw (sum, seconds) fits, rw (sum, seconds) (to_z-of_z w128 ((x +ℤ y) *ℤ pos n) fits))

pub returns-then-seconds-eq0-clause-area : goal.returns-then-seconds-eq0-clause-area
returns-then-seconds-eq0-clause-area c = area-none c.args.parts.now c.args.left.now c.args.right.now c.args.seconds c.requires.seconds (omega arith)

pub last_value-last-requires-clause-from : goal.last_value-last-requires-clause-from
last_value-last-requires-clause-from c =
    let met = day-met c.args.parts.now c.args.left.now.0 c.args.right.now.0 c.args.seconds c.requires.seconds (omega arith) in
    omega (arith, ints, clamps, met, c.right_end.ensures)

pub overflow_mul-result : goal.overflow_mul-result
overflow_mul-result c =
    (computed c.first_value-first.result c.last_value-last.result _ _ _ _ c.args.seconds c.get.ensures.range c.get-2.ensures.range c.get.ensures.value c.get-2.ensures.value c.from.ensures c.from-2.ensures (omega arith)).0

pub returns-clause-area : goal.returns-clause-area
returns-clause-area c =
    let product = computed c.first_value-first.result c.last_value-last.result _ _ _ _ c.args.seconds c.get.ensures.range c.get-2.ensures.range c.get.ensures.value c.get-2.ensures.value c.from.ensures c.from-2.ensures (omega arith) in
    rw product.1
    (area-is c.args.parts.now c.args.left.now c.args.right.now c.left_end.result c.right_end.result c.first_value-first.result c.last_value-last.result c.args.seconds c.left_end.ensures
    c.right_end.ensures c.first_value-first.ensures.value c.last_value-last.ensures.value c.requires.seconds)

pub returns-clause-fits : goal.returns-clause-fits
returns-clause-fits c =
    let product = computed c.first_value-first.result c.last_value-last.result _ _ _ _ c.args.seconds c.get.ensures.range c.get-2.ensures.range c.get.ensures.value c.get-2.ensures.value c.from.ensures c.from-2.ensures (omega arith) in
    rw product.1 (area-within c.first_value-first.result c.last_value-last.result most_millionths most_millionths c.args.seconds c.get.ensures.range c.get-2.ensures.range)

pub returns-clause-within : goal.returns-clause-within
returns-clause-within c =
    let product = computed c.first_value-first.result c.last_value-last.result _ _ _ _ c.args.seconds c.get.ensures.range c.get-2.ensures.range c.get.ensures.value c.get-2.ensures.value c.from.ensures c.from-2.ensures (omega arith) in
    λ below above h k. rw product.1
    (area-within c.first_value-first.result c.last_value-last.result below above c.args.seconds (c.first_value-first.ensures.between (neg_ℤ (pos below)) (pos above) h k)
    (c.last_value-last.ensures.between (neg_ℤ (pos below)) (pos above) h k))
