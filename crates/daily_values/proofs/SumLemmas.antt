-- A sum along the pairs of a day: what is summed and what is left make up the whole.
use Rattle.std.proofs.Common.{◌≡◌, refl, ap, sym, ◌∙◌, ℕ, ◌+◌, ◌<◌, ◌≤◌, get_or, List, [], ◌∷◌, ◌++◌, length, take, drop, ℤ, pos, ◌+ℤ◌, ◌<ℤ◌, arith, subst, add-one, drop-cons}
use Rattle.std.specs.Prelude.{All, map, sum_by}
use Rattle.std.proofs.lemmas.Int.{ints}
use Rattle.std.proofs.lemmas.List.{drop_all, map_more, map_push}
use Rattle.std.proofs.lemmas.List.Elements.{All-head, All-tail, All-cons, All-nil}
use Rattle.std.proofs.lemmas.List.Sums.{sum_by-cons}
use Rattle.fixed_units.specs.Calendar.{longest_day}
use Rattle.fixed_units.specs.Quantities.{IsStage}
use Rattle.fixed_units.specs.declared.readings.Reading.{Reading}
use Rattle.unit_discharge.specs.declared.unit_values.Unit.{Unit}
use Rattle.day_inputs.specs.declared.day_inputs.DayParts.{DayParts}
use Rattle.day_inputs.specs.DayInputs.{AreParts}
use Rattle.daily_values.specs.declared.sums.Sum.{Sum}
use Rattle.daily_values.specs.DayValue.{Point, unit_of, units_of, neighbours, pair_area, pair_seconds, twice_areas, sum_of}
use Rattle.daily_values.proofs.AreaLemmas.{ArePoints, AreRising, covered-le, day_length-le, points-rise, rising-first, rising-tail, units-rise}

-- a sum, and the pairs that are still to be summed, make up all pairs
pub record IsSumOfRest (day : DayParts) (rest all : List (Point × Point)) (sum : Sum) : Type 0 where
  pub twice : sum.twice +ℤ twice_areas day rest ≡ twice_areas day all
  pub covered : sum.covered + sum_by (pair_seconds day) rest ≡ sum_by (pair_seconds day) all

pub sum-start : (day : DayParts) (all : List (Point × Point)) (sum : Sum) → sum.twice ≡ pos 0 → sum.covered ≡ 0 → IsSumOfRest day all all sum
sum-start day all sum e f = record { twice = omega (arith, ints, e); covered = omega (arith, f) }

pub sum-step : (day : DayParts) (pair : Point × Point) (rest all : List (Point × Point)) (sum next : Sum) → IsSumOfRest day (pair ∷ rest) all sum
    → next.twice ≡ sum.twice +ℤ pair_area day pair → next.covered ≡ sum.covered + pair_seconds day pair → IsSumOfRest day rest all next
sum-step day pair rest all sum next h e f =
    let seconds = sum_by-cons (pair_seconds day) pair rest in
    record { twice = omega (arith, ints, e, h.twice); covered = omega (arith, f, seconds, h.covered) }

-- the next pair finds room
pub sum-room : (day : DayParts) (pair : Point × Point) (rest all : List (Point × Point)) (sum : Sum) (most : ℕ) → IsSumOfRest day (pair ∷ rest) all sum
    → sum_by (pair_seconds day) all ≤ most → sum.covered + pair_seconds day pair ≤ most
sum-room day pair rest all sum most h le =
    let seconds = sum_by-cons (pair_seconds day) pair rest in
    omega (arith, seconds, h.covered, le)

pub sum-done : (day : DayParts) (all : List (Point × Point)) (sum : Sum) → IsSumOfRest day [] all sum → (sum.twice ≡ twice_areas day all) × (sum.covered ≡ sum_by (pair_seconds day) all)
sum-done day all sum h = (omega (arith, ints, h.twice), omega (arith, h.covered))

same : (a b : ℤ) (m n : ℕ) → a ≡ b → m ≡ n → ◌≡◌ {A = Sum} (record { twice = a; covered = m }) (record { twice = b; covered = n })
same a b m n e f = cc

pub sum-is : (point : Unit → Point) (day : DayParts) (sum : Sum) → sum.twice ≡ (sum_of point day).twice → sum.covered ≡ (sum_of point day).covered → sum ≡ sum_of point day
sum-is point day sum e f = same sum.twice (sum_of point day).twice sum.covered (sum_of point day).covered e f

-- a list from a place on
pub drop-at : {X : Type 0} (xs : List X) (i : ℕ) (x : X) → i < length xs → x ≡ get_or xs i x → drop i xs ≡ x ∷ drop (i + 1) xs
drop-at xs i x h f =
    let step = drop-cons xs i x in
    rw add-one (cc (step h))

pub pair-same : (p q v w : Point) → p ≡ v → q ≡ w → ◌≡◌ {A = Point × Point} (p, q) (v, w)
pair-same p q v w e f = rw (e, f) refl

-- the unit values along a window: from its first reading on, from a reading on, and at the end
pub units-start : (day : DayParts) (first : Reading) (rest : List Reading) (left : Unit) → day.window ≡ first ∷ rest → left ≡ unit_of day first
    → left ∷ map (unit_of day) (drop 0 rest) ≡ units_of day
units-start day first rest left e f = rw (e, f) refl

pub units-step : (day : DayParts) (rest : List Reading) (i : ℕ) (r : Reading) (right : Unit) → i < length rest → r ≡ get_or rest i r
    → right ≡ unit_of day r → map (unit_of day) (drop i rest) ≡ right ∷ map (unit_of day) (drop (i + 1) rest)
units-step day rest i r right h f k =
    let from = drop-at rest i r h f in
    rw (from, k) refl

pub units-done : (day : DayParts) (rest : List Reading) (i : ℕ) → length rest ≤ i → map (unit_of day) (drop i rest) ≡ []
units-done day rest i h = ap (map (unit_of day)) (drop_all i rest h)

-- the readings of a window are of stages
pub next-stage : (day : DayParts) → AreParts day → (first : Reading) (rest : List Reading) (i : ℕ) (r : Reading) → day.window ≡ first ∷ rest
    → i < length rest → r ≡ get_or rest i r → IsStage r.raw
next-stage day are first rest i r e h f =
    let all = All-tail (λ (r : Reading). IsStage r.raw) first rest (subst (All (λ (r : Reading). IsStage r.raw)) e are.stages) in
    subst (λ (x : Reading). IsStage x.raw) (sym f) (all i r h)

-- fewer than two have no pair
pub no-pairs : {X : Type 0} (rest : List X) → length rest < 2 → neighbours rest ≡ []
no-pairs [] h = refl
no-pairs (r ∷ []) h = refl
no-pairs (r ∷ s ∷ rs) h = absurd (omega arith)

-- what the pairs of a list keep to
pub pairs-rise : (ps : List Point) → ArePoints ps → All (λ (p : Point × Point). p.0.0 <ℤ p.1.0) (neighbours ps)
pairs-rise [] h = All-nil (λ (p : Point × Point). p.0.0 <ℤ p.1.0)
pairs-rise (p ∷ []) h = All-nil (λ (p : Point × Point). p.0.0 <ℤ p.1.0)
pairs-rise (p ∷ q ∷ ps) h =
    All-cons (λ (p : Point × Point). p.0.0 <ℤ p.1.0) (p, q) (neighbours (q ∷ ps)) (rising-first (λ (p : Point). p.0) p q ps h)
    (pairs-rise (q ∷ ps) (rising-tail (λ (p : Point). p.0) p (q ∷ ps) h))

pub pairs-keep : {X : Type 0} (P : X → Type 0) (xs : List X) → All P xs → All (λ (p : X × X). P p.0 × P p.1) (neighbours xs)
pairs-keep {X = X} P [] h = All-nil (λ (p : X × X). P p.0 × P p.1)
pairs-keep {X = X} P (x ∷ []) h = All-nil (λ (p : X × X). P p.0 × P p.1)
pairs-keep {X = X} P (x ∷ y ∷ xs) h =
    let behind = All-tail P x (y ∷ xs) h in
    All-cons (λ (p : X × X). P p.0 × P p.1) (x, y) (neighbours (y ∷ xs)) (All-head P x (y ∷ xs) h, All-head P y xs behind) (pairs-keep P (y ∷ xs) behind)

-- the pairs of a day, as they are made one step after the other: they rise, and they find room
pub pairs-made : (point : Unit → Point) (day : DayParts) (points given : List Point) (made pairs : List (Point × Point)) → given ≡ points
    → points ≡ map point (units_of day) → pairs ≡ made → made ≡ neighbours given → pairs ≡ neighbours (map point (units_of day))
pairs-made point day points given made pairs e f g h = g ∙ h ∙ ap neighbours (e ∙ f)

module _ (point : Unit → Point) (at : (u : Unit) → (point u).0 ≡ u.at) (day : DayParts) (are : AreParts day) where
  pub made-rise : (pairs : List (Point × Point)) → pairs ≡ neighbours (map point (units_of day)) → All (λ (p : Point × Point). p.0.0 <ℤ p.1.0) pairs
  made-rise pairs e =
      subst (All (λ (p : Point × Point). p.0.0 <ℤ p.1.0)) (sym e)
      (pairs-rise (map point (units_of day)) (points-rise point at (units_of day) (units-rise day day.window are.rising)))

  pub made-room : (pairs : List (Point × Point)) → pairs ≡ neighbours (map point (units_of day)) → sum_by (pair_seconds day) pairs ≤ longest_day
  made-room pairs e =
      let all = covered-le point at day are in
      let long = day_length-le day are in
      let seconds = ap (sum_by (pair_seconds day)) e in
      omega (arith, all, long, seconds)

  -- along a window: the next point is later, and its pair finds room
  module _ (rest : List Reading) (i : ℕ) (r : Reading) (left right : Unit) (p q : Point) where
    pub next-rises : i < length rest → r ≡ get_or rest i r → right ≡ unit_of day r → p ≡ point left → q ≡ point right
        → AreRising (left ∷ map (unit_of day) (drop i rest)) → p.0 <ℤ q.0
    next-rises l h k e f rising =
        let step = units-step day rest i r right l h k in
        let less = rising-first (λ (u : Unit). u.at) left right (map (unit_of day) (drop (i + 1) rest)) (subst (λ (us : List Unit). AreRising (left ∷ us)) step rising) in
        let from = ap (λ (x : Point). x.0) e ∙ at left in
        let to = ap (λ (x : Point). x.0) f ∙ at right in
        omega (arith, ints, less, from, to)

    pub next-room : (sum : Sum) → i < length rest → r ≡ get_or rest i r → right ≡ unit_of day r → p ≡ point left → q ≡ point right
        → IsSumOfRest day (neighbours (map point (left ∷ map (unit_of day) (drop i rest)))) (neighbours (map point (units_of day))) sum
        → sum.covered + pair_seconds day (p, q) ≤ longest_day
    next-room sum l h k e f summed =
        let all = neighbours (map point (units_of day)) in
        let step = units-step day rest i r right l h k in
        let next = subst (λ (us : List Unit). IsSumOfRest day (neighbours (map point (left ∷ us))) all sum) step summed in
        let covered = covered-le point at day are in
        let long = day_length-le day are in
        let room = sum-room day (point left, point right) (neighbours (map point (right ∷ map (unit_of day) (drop (i + 1) rest)))) all sum longest_day next (omega (arith, covered, long)) in
        let pair = ap (pair_seconds day) (pair-same p q (point left) (point right) e f) in
        omega (arith, room, pair)

-- the points of the readings so far, and that of one reading more
pub points-more : (point : Unit → Point) (day : DayParts) (items : List Reading) (i : ℕ) (r : Reading) (points more : List Point) (p : Point)
    → items ≡ day.window → i < length items → r ≡ get_or items i r → p ≡ point (unit_of day r)
    → points ≡ map point (map (unit_of day) (take i day.window)) → more ≡ points ++ p ∷ []
    → more ≡ map point (map (unit_of day) (take (i + 1) day.window))
points-more point day items i r points more p is within here at before pushed =
    let within = subst (λ (w : List Reading). i < length w) is within in
    let here = subst (λ (w : List Reading). r ≡ get_or w i r) is here in
    let units = map (unit_of day) (take i day.window) in
    pushed ∙ ap (λ ps. ps ++ p ∷ []) before ∙ ap (λ q. map point units ++ q ∷ []) (at ∙ ap (λ u. point (unit_of day u)) here)
    ∙ sym (ap (map point) (map_more (unit_of day) day.window i r within) ∙ map_push point units (unit_of day (get_or day.window i r)))
