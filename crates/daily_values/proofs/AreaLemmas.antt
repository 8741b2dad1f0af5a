-- Areas between points: how great they are, and how many seconds they cover.
use Rattle.std.proofs.Common.{◌≡◌, refl, sym, ◌∙◌, ℕ, suc, ◌+◌, ◌*◌, ◌^◌, ◌<◌, ◌≤◌, Bool, true, false, cond, get_or, List, [], ◌∷◌, ℤ, pos, negsuc, neg_ℤ, ◌+ℤ◌, ◌-ℤ◌, ◌*ℤ◌, ◌≤ℤ◌, ◌<ℤ◌, FitsSigned, Option, None, Some, arith}
use Rattle.std.specs.Prelude.{AllPairs, map, sum_by, int_le, IfOk, IfSome, Result, Ok, Err}
use Rattle.std.specs.Result.{result_ok}
use Rattle.rising.specs.Lists as lists
use Rattle.std.specs.Int.{w128, int_max, int_min}
use Rattle.std.proofs.Math.Nat.{mul-le-mul_right}
use Rattle.std.proofs.lemmas.Int.{ints, clamps, fits_signed_mul}
use Rattle.std.proofs.lemmas.List.{length-map, get_or-map}
use Rattle.std.proofs.lemmas.List.Sums.{sum_by-cons}
use borrow.Author.Differences.{up, down}
use Rattle.fixed_units.specs.Calendar.{longest_day}
use Rattle.fixed_units.specs.Lines.{line_at}
use Rattle.fixed_units.specs.Quantities.{IsWithin, IsMicro, most_millionths}
use Rattle.fixed_units.specs.declared.readings.Reading.{Reading}
use Rattle.fixed_units.proofs.LineLemmas.{abs-le}
use Rattle.readings.specs.Readings.{IsRising}
use Rattle.unit_discharge.specs.declared.unit_values.Unit.{Unit}
use Rattle.day_inputs.specs.declared.day_inputs.DayParts.{DayParts}
use Rattle.day_inputs.specs.DayInputs.{AreParts}
use Rattle.daily_values.specs.DayValue.{Point, unit_of, units_of, neighbours, stage_point, discharge_point, left_end, right_end, positive_part, seconds_between, twice_area, if_both, pair_area, pair_seconds, sum_of, day_length}
use Rattle.daily_values.specs.Figures.{IsAreaWithin}

-- unit values, and points, whose instants strictly rise
abbrev pub AreRising : List Unit → Type 0
AreRising units = lists.IsRising (λ (u : Unit). u.at) units

abbrev pub ArePoints : List Point → Type 0
ArePoints points = lists.IsRising (λ (p : Point). p.0) points

-- what is made of the elements of a rising list, each at its number, rises
rising-map : {X Y : Type 0} (f : X → Y) (from : X → ℤ) (to : Y → ℤ) → ((x : X) → to (f x) ≡ from x) → (xs : List X)
    → AllPairs (λ x y. from x <ℤ from y) xs → AllPairs (λ x y. to x <ℤ to y) (map f xs)
rising-map f from to e [] h = λ i j d p q. absurd (omega arith)
rising-map f from to e (x ∷ xs) h = λ i j d p q.
    let long = length-map (x ∷ xs) f in
    let one = get_or-map f (x ∷ xs) i x d (omega (arith, long)) in
    let two = get_or-map f (x ∷ xs) j x d (omega (arith, long)) in
    let less = h i j x p (omega (arith, long)) in
    rw (one, two, e (get_or (x ∷ xs) i x), e (get_or (x ∷ xs) j x)) less

pub units-rise : (day : DayParts) (rs : List Reading) → IsRising rs → AreRising (map (unit_of day) rs)
units-rise day rs h = rising-map (unit_of day) (λ (r : Reading). r.at) (λ (u : Unit). u.at) (λ r. refl) rs h

pub points-rise : (point : Unit → Point) → ((u : Unit) → (point u).0 ≡ u.at) → (units : List Unit) → AreRising units → ArePoints (map point units)
points-rise point e units h = rising-map point (λ (u : Unit). u.at) (λ (p : Point). p.0) e units h

pub rising-tail : {X : Type 0} (place : X → ℤ) (x : X) (xs : List X) → lists.IsRising place (x ∷ xs) → lists.IsRising place xs
rising-tail place x xs h = λ i j d p q. h (suc i) (suc j) d (omega arith) (omega arith)

pub rising-first : {X : Type 0} (place : X → ℤ) (x y : X) (xs : List X) → lists.IsRising place (x ∷ y ∷ xs) → place x <ℤ place y
rising-first place x y xs h = h 0 1 x (omega arith) (omega arith)

-- a discharge that is there keeps to what is known of it
pub discharge-IfSome : {E : Type 0} (P : ℤ → Type 0) (r : Result ℤ E) → IfOk r P → IfSome (result_ok r) P
discharge-IfSome P (Ok q) h = h
discharge-IfSome P (Err e) h = tt

-- a bound times seconds
scaled-low : (z : ℤ) (m n : ℕ) → neg_ℤ (pos m) ≤ℤ z → neg_ℤ (pos (m * n)) ≤ℤ (z *ℤ pos n)
scaled-low z m n h =
    let more : down z * n ≤ (up z + m) * n = mul-le-mul_right n (omega (arith, ints)) in
    omega (arith, ints, more)

scaled-high : (z : ℤ) (m n : ℕ) → z ≤ℤ pos m → (z *ℤ pos n) ≤ℤ pos (m * n)
scaled-high z m n h =
    let more : up z * n ≤ (down z + m) * n = mul-le-mul_right n (omega (arith, ints)) in
    omega (arith, ints, more)

-- the sum of two values times seconds
pub area-within : (x y : ℤ) (below above n : ℕ) → IsWithin (neg_ℤ (pos below)) (pos above) x → IsWithin (neg_ℤ (pos below)) (pos above) y → IsAreaWithin below above n ((x +ℤ y) *ℤ pos n)
area-within x y below above n p q = record {
  low = scaled-low (x +ℤ y) (2 * below) n (omega (arith, ints, p.low, q.low));
  high = scaled-high (x +ℤ y) (2 * above) n (omega (arith, ints, p.high, q.high));
}

pub area-fits : (x y : ℤ) (n : ℕ) → IsMicro x → IsMicro y → n < 2 ^ 32 → FitsSigned w128 ((x +ℤ y) *ℤ pos n)
area-fits x y n p q h =
    fits_signed_mul w128 (x +ℤ y) (pos n) (2 * most_millionths) (2 ^ 32)
    (abs-le (x +ℤ y) (2 * most_millionths) (omega (arith, ints, p.low, q.low)) (omega (arith, ints, p.high, q.high))) (omega arith) (omega arith)

-- no seconds, no area
pub area-none : (day : DayParts) (p q : ℤ × ℤ) (n : ℕ) → n ≡ seconds_between day p.0 q.0 → n ≡ 0 → pos 0 ≡ twice_area day p q
area-none day p q n e none = none_of _ _ (sym e ∙ none)
  where
    none_of : (x : ℤ) (m : ℕ) → m ≡ 0 → pos 0 ≡ x *ℤ pos m
    none_of x m z = rw z (omega (arith, ints))

pub none-within : (below above n : ℕ) → n ≡ 0 → IsAreaWithin below above n (pos 0)
none-within below above n e = rw e (record { low = omega (arith, ints); high = omega (arith, ints) })

-- the area, by the values at its ends
pub area-is : (day : DayParts) (p q : ℤ × ℤ) (from until first last : ℤ) (n : ℕ) → from ≡ left_end day p.0 → until ≡ right_end day q.0
    → first ≡ line_at p q from → last ≡ line_at p q until → n ≡ seconds_between day p.0 q.0 → (first +ℤ last) *ℤ pos n ≡ twice_area day p q
area-is day p q from until first last n e f g h k = rw (g, h, e, f, k) refl

-- a sum and an area more
pub sum-within : (below above n m : ℕ) (sum area : ℤ) → IsAreaWithin below above n sum → IsAreaWithin below above m area → IsAreaWithin below above (n + m) (sum +ℤ area)
sum-within below above n m sum area h k = record {
  low = omega (arith, ints, spread (2 * below) n m, h.low, k.low);
  high = omega (arith, ints, spread (2 * above) n m, h.high, k.high);
}
  where
    spread : (b x y : ℕ) → b * (x + y) ≡ b * x + b * y
    spread b x y = omega arith

-- where there are seconds, the day is met
pub day-met : (day : DayParts) (from to : ℤ) (n : ℕ) → n ≡ seconds_between day from to → 0 < n → left_end day from ≤ℤ right_end day to
day-met day from to n e h = by (int_le (to -ℤ from) (pos (60 * day.gap))) (right_end day to -ℤ left_end day from) refl e
  where
    by : (b : Bool) (z : ℤ) → right_end day to -ℤ left_end day from ≡ z → n ≡ cond b (positive_part z) 0 → left_end day from ≤ℤ right_end day to
    by false z f e = absurd (omega (arith, e, h))
    by true (pos m) f e = omega (arith, ints, f)
    by true (negsuc m) f e = absurd (omega (arith, e, h))

-- the area between two points that have their values
pub area-some : (day : DayParts) (p q : Point) (v w : ℤ) → p.1 ≡ Some v → q.1 ≡ Some w → pair_area day (p, q) ≡ twice_area day (p.0, v) (q.0, w)
area-some day p q v w e f = rw (e, f) refl

pub seconds-some : (day : DayParts) (p q : Point) (v w : ℤ) → p.1 ≡ Some v → q.1 ≡ Some w → pair_seconds day (p, q) ≡ seconds_between day p.0 q.0
seconds-some day p q v w e f = rw (e, f) refl

-- an instant, moved into the day where it is outside
abbrev into_day : DayParts → ℤ → ℤ
into_day day at = int_max day.from (int_min day.until at)

cut-le : (day : DayParts) (b : Bool) (left right : ℤ) → left <ℤ right → day.from ≤ℤ day.until → (pos (cond b (positive_part (int_min day.until right -ℤ int_max day.from left)) 0) +ℤ into_day day left) ≤ℤ into_day day right
cut-le day false left right h le = omega (arith, ints, clamps)
cut-le day true left right h le = by (int_min day.until right -ℤ int_max day.from left) refl
  where
    by : (z : ℤ) → int_min day.until right -ℤ int_max day.from left ≡ z → (pos (positive_part z) +ℤ into_day day left) ≤ℤ into_day day right
    by (pos n) e = omega (arith, ints, clamps)
    by (negsuc n) e = omega (arith, ints, clamps)

-- a pair covers at most the seconds between its instants
both-le : (v w : Option ℤ) (n : ℕ) → if_both v w n ≤ n
both-le None w n = omega arith
both-le (Some v) None n = omega arith
both-le (Some v) (Some w) n = omega arith

-- the seconds that are covered behind a point fit between it and the end of the day
covered-behind : (day : DayParts) (p : Point) (ps : List Point) → day.from ≤ℤ day.until → ArePoints (p ∷ ps) → (pos (sum_by (pair_seconds day) (neighbours (p ∷ ps))) +ℤ into_day day p.0) ≤ℤ day.until
covered-behind day p [] le h = omega (arith, ints, clamps)
covered-behind day p (q ∷ ps) le h =
    let here = cut-le day (int_le (q.0 -ℤ p.0) (pos (60 * day.gap))) p.0 q.0 (rising-first (λ (x : Point). x.0) p q ps h) le in
    let some = both-le p.1 q.1 (seconds_between day p.0 q.0) in
    let behind = covered-behind day q ps le (rising-tail (λ (x : Point). x.0) p (q ∷ ps) h) in
    rw (sum_by-cons (pair_seconds day) (p, q) (neighbours (q ∷ ps))) (omega (arith, ints, here, some, behind))

pub positive_part-is : (z : ℤ) → pos 0 ≤ℤ z → pos (positive_part z) ≡ z
positive_part-is (pos n) h = refl
positive_part-is (negsuc n) h = absurd (omega (arith, ints))

-- no more is covered than the day is long
pub points-le : (day : DayParts) → AreParts day → (points : List Point) → ArePoints points → sum_by (pair_seconds day) (neighbours points) ≤ day_length day
points-le day are [] h = omega arith
points-le day are (p ∷ ps) h =
    let long = positive_part-is (day.until -ℤ day.from) (omega (arith, ints, are.shortest)) in
    let behind = covered-behind day p ps (omega (arith, ints, are.shortest)) h in
    omega (arith, ints, clamps, long, behind)

pub covered-le : (point : Unit → Point) → ((u : Unit) → (point u).0 ≡ u.at) → (day : DayParts) → AreParts day → (sum_of point day).covered ≤ day_length day
covered-le point e day are = points-le day are (map point (units_of day)) (points-rise point e (units_of day) (units-rise day day.window are.rising))

pub day_length-le : (day : DayParts) → AreParts day → day_length day ≤ longest_day
day_length-le day are =
    let long = positive_part-is (day.until -ℤ day.from) (omega (arith, ints, are.shortest)) in
    omega (arith, ints, long, are.longest)

-- discharges cover at most what stages do
pub discharge-le : (day : DayParts) → (sum_of discharge_point day).covered ≤ (sum_of stage_point day).covered
discharge-le day = by (units_of day)
  where
    by : (us : List Unit) → sum_by (pair_seconds day) (neighbours (map discharge_point us)) ≤ sum_by (pair_seconds day) (neighbours (map stage_point us))
    by [] = omega arith
    by (u ∷ []) = omega arith
    by (u ∷ v ∷ us) =
        let less = both-le (result_ok u.discharge) (result_ok v.discharge) (seconds_between day u.at v.at) in
        let behind = by (v ∷ us) in
        let left = sum_by-cons (pair_seconds day) (discharge_point u, discharge_point v) (neighbours (map discharge_point (v ∷ us))) in
        let right = sum_by-cons (pair_seconds day) (stage_point u, stage_point v) (neighbours (map stage_point (v ∷ us))) in
        omega (arith, less, behind, left, right)
