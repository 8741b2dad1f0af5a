-- Laws of tables: the rated discharge of a stage is the one that stands by cases.
use Rattle.std.specs.Prelude.{◌≡◌, ◌⊎◌, Bool, true, false, List, [], ◌∷◌, ◌++◌, ℕ, suc, ◌<◌, length, ℤ, ◌<ℤ◌, ◌≤ℤ◌, int_lt, int_le, Option, None, Some, IsSomeAnd, filter, take, drop, All, AllPairs, Contains}
use Rattle.std.specs.Ordering.{int_cmp, int_eq, is_le}
use Rattle.std.proofs.Common.{arith, refl, ap, get_or, sym, ◌∙◌, subst, inl, inr, drop-cons}
use Rattle.std.proofs.lemmas.Int.{ints, by_lt_z}
use Rattle.std.proofs.lemmas.Bool.Decides.{Decides-int_eq}
use Rattle.std.proofs.lemmas.List.{append_assoc, append-nil, get_or_default, take-append-drop}
use Rattle.std.proofs.lemmas.List.Elements.{All-head, All-cons, All-nil, All-append, All-weaker, filter-append, Contains-append_right}
use Rattle.rising.proofs.Selecting.{filter_all, filter_none, AllPairs-head, AllPairs-tail, All-back}
use Rattle.rising.proofs.Parting.{lt_yes, lt_no, le_yes, le_no}
use Rattle.fixed_units.specs.Lines.{line_at}
use Rattle.fixed_units.proofs.LineLemmas.{line-first, line-last}
use Rattle.rating_tables.specs.declared.table.Rated.{Rated}
use Rattle.rating_tables.specs.declared.table.Rated.TheVariants.{Value, Below, Above}
use Rattle.rating_tables.specs.Table.{Row, IsTable, rated, rated_between, rows_upto}
use Rattle.rating_tables.specs.RatedDischarge.{IsBetween, IsRated}
use Rattle.rating_tables.proofs.TableLemmas.{IsBelow}
use Rattle.rising.specs.Ends.{first, last}
use Rattle.rising.proofs.Ends.{last-cons, last-append}

-- the rows in front of one, and those behind it
pub front_of : (R : Row → Row → Type 0) (front : List Row) (r : Row) (back : List Row) → AllPairs R (front ++ r ∷ back) → All (λ x. R x r) front
front_of R [] r back h = All-nil (λ x. R x r)
front_of R (x ∷ front) r back h =
    All-cons (λ x. R x r) x front (All-head (R x) r back (All-back (R x) front (r ∷ back) (AllPairs-head R x (front ++ r ∷ back) h)))
    (front_of R front r back (AllPairs-tail R x (front ++ r ∷ back) h))

pub back_of : (R : Row → Row → Type 0) (front : List Row) (r : Row) (back : List Row) → AllPairs R (front ++ r ∷ back) → All (R r) back
back_of R [] r back h = AllPairs-head R r back h
back_of R (x ∷ front) r back h = back_of R front r back (AllPairs-tail R x (front ++ r ∷ back) h)

-- the last row
pub record IsLast (rows : List Row) (P : Row → Type 0) : Type 0 where
  pub front : List Row
  pub row : Row
  pub whole : rows ≡ front ++ row ∷ []
  pub holds : P row

pub last_split : (P : Row → Type 0) (rows : List Row) → IsSomeAnd (last rows) P → IsLast rows P
last_split P [] h = absurd h
last_split P (x ∷ []) h = record { front = []; row = x; whole = refl; holds = h }
last_split P (x ∷ y ∷ rows) h =
    let rest = last_split P (y ∷ rows) (subst (λ (o : Option Row). IsSomeAnd o P) (last-cons x y rows) h) in
    record { front = x ∷ rest.front; row = rest.row; whole = ap (λ l. x ∷ l) rest.whole; holds = rest.holds }

-- a row that is there stands between others
pub contained_split : (rows : List Row) (r : Row) → Contains rows r → (front : List Row) × (back : List Row) × (rows ≡ front ++ r ∷ back)
contained_split rows r h =
    let k = h.0 in
    let cut = drop-cons rows k r h.1 in
    (take k rows, drop (suc k) rows, sym (take-append-drop k rows) ∙ ap (λ l. take k rows ++ l) (cut ∙ ap (λ (x : Row). x ∷ drop (suc k) rows) h.2))

-- two filters of which one passes the front and the other the back
pub parts : (p q : Row → Bool) (front back : List Row) → All (λ r. p r ≡ true) front → All (λ r. q r ≡ false) front → All (λ r. p r ≡ false) back → All (λ r. q r ≡ true) back
    → (filter p (front ++ back) ≡ front) × (filter q (front ++ back) ≡ back)
parts p q front back a b c d =
    let kept = filter_all p front a in
    let gone = filter_none q front b in
    let none = filter_none p back c in
    let all = filter_all q back d in (
      filter-append p front back ∙ rw (kept, none) (append-nil front),
      filter-append q front back ∙ rw (gone, all) refl,
    )

-- the rows around a stage
abbrev IsUpto : ℤ → Row → Type 0
IsUpto stage r = r.0 ≤ℤ stage

abbrev IsOver : ℤ → Row → Type 0
IsOver stage r = stage <ℤ r.0

rated_around : (rows front back : List Row) (stage : ℤ) → rows ≡ front ++ back → All (IsUpto stage) front → All (IsOver stage) back
    → rated_between (last front) (first back) stage ≡ rated rows stage
rated_around rows front back stage e low high =
    let around = parts (λ r. int_le r.0 stage) (λ r. int_lt stage r.0) front back
    (All-weaker (IsUpto stage) (λ r. int_le r.0 stage ≡ true) (λ r h. le_yes r.0 stage h) front low)
    (All-weaker (IsUpto stage) (λ r. int_lt stage r.0 ≡ false) (λ r h. lt_no stage r.0 h) front low)
    (All-weaker (IsOver stage) (λ r. int_le r.0 stage ≡ false) (λ r h. le_no r.0 stage h) back high)
    (All-weaker (IsOver stage) (λ r. int_lt stage r.0 ≡ true) (λ r h. lt_yes stage r.0 h) back high) in
    ap (λ l. rated_between (last l) (first back) stage) (sym around.0) ∙ ap (λ l. rated_between (last (rows_upto stage (front ++ back))) (first l) stage) (sym around.1)
    ∙ ap (λ l. rated l stage) (sym e)

-- where the last row up to a stage is known
up_to_row : (front : List Row) (r : Row) (back : List Row) (stage : ℤ) → AllPairs IsBelow (front ++ r ∷ back) → r.0 ≤ℤ stage → All (IsUpto stage) (front ++ r ∷ [])
up_to_row front r back stage h k =
    All-append (IsUpto stage) front (r ∷ []) (All-weaker (λ x. IsBelow x r) (IsUpto stage) (λ x m. omega (arith, ints)) front (front_of IsBelow front r back h))
    (All-cons (IsUpto stage) r [] k (All-nil (IsUpto stage)))

at_row : (rows front : List Row) (r : Row) (back : List Row) (stage : ℤ) → IsTable rows → rows ≡ front ++ r ∷ back → r.0 ≤ℤ stage → All (IsOver stage) back
    → rated_between (Some r) (first back) stage ≡ rated rows stage
at_row rows front r back stage h e low high =
    let rising = subst (AllPairs IsBelow) e h.order.rising in
    ap (λ o. rated_between o (first back) stage) (sym (last-append front r []))
    ∙ rated_around rows (front ++ r ∷ []) back stage (e ∙ sym (append_assoc front (r ∷ []) back)) (up_to_row front r back stage rising low) high

over_row : (rows front : List Row) (r : Row) (back : List Row) (stage : ℤ) → IsTable rows → rows ≡ front ++ r ∷ back → stage <ℤ r.0 → All (IsOver stage) (r ∷ back)
over_row rows front r back stage h e k =
    let rising = subst (AllPairs IsBelow) e h.order.rising in
    All-cons (IsOver stage) r back k (All-weaker (IsBelow r) (IsOver stage) (λ x m. omega (arith, ints)) back (back_of IsBelow front r back rising))

on_row : (r : Row) (above : Option Row) (stage : ℤ) → r.0 ≡ stage → rated_between (Some r) above stage ≡ Value r.1
on_row r None stage h = let e = (Decides-int_eq r.0 stage).1 h in rw e refl
on_row r (Some s) stage h = let e = (Decides-int_eq r.0 stage).1 h in rw e refl

pub off_row : (x y : ℤ) → x <ℤ y → int_eq x y ≡ false
off_row x y h = by (int_eq x y) refl
  where
    by : (b : Bool) → int_eq x y ≡ b → int_eq x y ≡ false
    by true e = absurd (let same = (Decides-int_eq x y).0 e in omega (arith, ints))
    by false e = e

pub row_rated : (rows front back : List Row) (r : Row) → IsTable rows → rows ≡ front ++ r ∷ back → rated rows r.0 ≡ Value r.1
row_rated rows front back r h e =
    sym (at_row rows front r back r.0 h e (omega (arith, ints)) (back_of IsBelow front r back (subst (AllPairs IsBelow) e h.order.rising))) ∙ on_row r (first back) r.0 refl

-- strictly between two rows
within_rated : (rows front back : List Row) (r s : Row) (stage : ℤ) → IsTable rows → rows ≡ front ++ r ∷ s ∷ back → r.0 <ℤ stage → stage <ℤ s.0
    → rated rows stage ≡ Value (line_at r s stage)
within_rated rows front back r s stage h e low high =
    let whole : rows ≡ (front ++ r ∷ []) ++ s ∷ back = e ∙ sym (append_assoc front (r ∷ []) (s ∷ back)) in
    let other = off_row r.0 stage low in
    sym (at_row rows front r (s ∷ back) stage h e (omega (arith, ints)) (over_row rows (front ++ r ∷ []) s back stage h whole high)) ∙ rw other refl

pub between_rated : (rows front back : List Row) (r s : Row) (stage : ℤ) → IsTable rows → rows ≡ front ++ r ∷ s ∷ back → r.0 ≤ℤ stage → stage ≤ℤ s.0
    → rated rows stage ≡ Value (line_at r s stage)
between_rated rows front back r s stage h e low high =
    let whole : rows ≡ (front ++ r ∷ []) ++ s ∷ back = e ∙ sym (append_assoc front (r ∷ []) (s ∷ back)) in
    let next : r.0 <ℤ s.0 = All-head (IsBelow r) s back (back_of IsBelow front r (s ∷ back) (subst (AllPairs IsBelow) e h.order.rising)) in
    by_lt_z stage s.0
    (λ below. by_lt_z r.0 stage
    (λ above. within_rated rows front back r s stage h e above below)
    (λ first.
    let same : r.0 ≡ stage = omega (arith, ints) in
    ap (rated rows) (sym same) ∙ row_rated rows front (s ∷ back) r h e ∙ ap Value (sym (line-first r s next) ∙ ap (line_at r s) same)))
    (λ above.
    let same : stage ≡ s.0 = omega (arith, ints) in
    ap (rated rows) same ∙ row_rated rows (front ++ r ∷ []) back s h whole ∙ ap Value (sym (line-last r s next) ∙ ap (line_at r s) (sym same)))

-- what a test of two stages says
pub told_le : (x y : ℤ) → is_le (int_cmp x y) ≡ true → x ≤ℤ y
told_le x y h = grind (arith, ints)

-- a stage on or between the rows of two neighbouring places
pub placed_rated : (rows : List Row) (place behind : ℕ) (r s : Row) (stage : ℤ) → IsTable rows → behind ≡ suc place → behind < length rows
    → r ≡ get_or rows place r → s ≡ get_or rows behind s → r.0 ≤ℤ stage → stage ≤ℤ s.0 → rated rows stage ≡ Value (line_at r s stage)
placed_rated rows place behind r s stage h next inside e f low high =
    let here = drop-cons rows place r (omega (arith, next, inside)) in
    let there = drop-cons rows behind s inside in
    let first : drop place rows ≡ r ∷ drop behind rows = here ∙ ap (λ (x : Row). x ∷ drop (suc place) rows) (sym e) ∙ ap (λ (n : ℕ). r ∷ drop n rows) (sym next) in
    let second : drop behind rows ≡ s ∷ drop (suc behind) rows = there ∙ ap (λ (x : Row). x ∷ drop (suc behind) rows) (sym f) in
    between_rated rows (take place rows) (drop (suc behind) rows) r s stage h
    (sym (take-append-drop place rows) ∙ ap (λ l. take place rows ++ l) (first ∙ ap (λ l. r ∷ l) second)) low high

pub placed_rise : (rows : List Row) (place behind : ℕ) (r s : Row) → IsTable rows → place < behind → behind < length rows
    → r ≡ get_or rows place r → s ≡ get_or rows behind s → r.0 <ℤ s.0
placed_rise rows place behind r s h next inside e f =
    let there : s ≡ get_or rows behind r = f ∙ get_or_default rows behind s r inside in
    subst (λ (x : Row). x.0 <ℤ s.0) (sym e) (subst (λ (x : Row). (get_or rows place r).0 <ℤ x.0) (sym there) (h.order.rising place behind r next inside))

-- whatever stands by cases is what is rated
below_rated : (rows : List Row) (stage : ℤ) → IsTable rows → IsSomeAnd (first rows) (λ r. stage <ℤ r.0) → rated rows stage ≡ Below
below_rated [] stage h k = absurd k
below_rated (r ∷ rows) stage h k = sym (rated_around (r ∷ rows) [] (r ∷ rows) stage refl (All-nil (IsUpto stage)) (over_row (r ∷ rows) [] r rows stage h refl k))

above_rated : (rows : List Row) (stage : ℤ) → IsTable rows → IsSomeAnd (last rows) (λ r. r.0 <ℤ stage) → rated rows stage ≡ Above
above_rated rows stage h k =
    let end = last_split (λ r. r.0 <ℤ stage) rows k in
    let other = off_row end.row.0 stage end.holds in
    sym (at_row rows end.front end.row [] stage h end.whole (let m = end.holds in omega (arith, ints)) (All-nil (IsOver stage))) ∙ rw other refl

pub rated_by_cases : (rows : List Row) (stage : ℤ) (v : Rated) → IsTable rows → IsRated rows stage v → rated rows stage ≡ v
rated_by_cases rows stage Below h k = below_rated rows stage h k
rated_by_cases rows stage Above h k = above_rated rows stage h k
rated_by_cases rows stage (Value discharge) h (inl k) =
    let split = contained_split rows (stage, discharge) k in row_rated rows split.0 split.1 (stage, discharge) h split.2
rated_by_cases rows stage (Value discharge) h (inr k) =
    within_rated rows k.0.front k.0.back k.0.lower k.0.upper stage h k.0.neighbours k.0.above k.0.below ∙ ap Value (sym k.1)

-- two rows around a number are so behind another row too
abbrev pub behind_row : (number : Row → ℤ) (r : Row) (rows : List Row) (at : ℤ) → IsBetween number rows at → IsBetween number (r ∷ rows) at
behind_row number r rows at h =
    record { front = r ∷ h.front; lower = h.lower; upper = h.upper; back = h.back; neighbours = ap (λ l. r ∷ l) h.neighbours; above = h.above; below = h.below }

abbrev pub first_two : (number : Row → ℤ) (r s : Row) (rows : List Row) (at : ℤ) → number r <ℤ at → at <ℤ number s → IsBetween number (r ∷ s ∷ rows) at
first_two number r s rows at low high = record { front = []; lower = r; upper = s; back = rows; neighbours = refl; above = low; below = high }

-- and something stands by cases
abbrev OnOrAbove : List Row → ℤ → Type 0
OnOrAbove rows stage = ((discharge : ℤ) × IsRated rows stage (Value discharge)) ⊎ IsRated rows stage Above

lifted : (r s : Row) (rows : List Row) (stage : ℤ) → OnOrAbove (s ∷ rows) stage → OnOrAbove (r ∷ s ∷ rows) stage
lifted r s rows stage (inl (discharge, inl k)) = inl (discharge, inl (Contains-append_right (r ∷ []) (s ∷ rows) (stage, discharge) k))
lifted r s rows stage (inl (discharge, inr k)) = inl (discharge, inr (behind_row (λ x. x.0) r (s ∷ rows) stage k.0, k.1))
lifted r s rows stage (inr k) = inr (subst (λ (o : Option Row). IsSomeAnd o (λ r. r.0 <ℤ stage)) (sym (last-cons r s rows)) k)

here : (r : Row) (rows : List Row) (stage : ℤ) → r.0 ≡ stage → OnOrAbove (r ∷ rows) stage
here r rows stage h =
    let same : r ≡ (stage, r.1) = ap (λ (x : ℤ). (x, r.1)) h in
    inl (r.1, inl (0, omega arith, same))

on_or_above : (r : Row) (rows : List Row) (stage : ℤ) → r.0 ≤ℤ stage → OnOrAbove (r ∷ rows) stage
on_or_above r [] stage h = by_lt_z r.0 stage (λ k. inr k) (λ k. here r [] stage (omega (arith, ints)))
on_or_above r (s ∷ rows) stage h =
    by_lt_z r.0 stage
    (λ k. by_lt_z stage s.0
    (λ m. inl (line_at r s stage, inr (first_two (λ x. x.0) r s rows stage k m, refl)))
    (λ m. lifted r s rows stage (on_or_above s rows stage m)))
    (λ k. here r (s ∷ rows) stage (omega (arith, ints)))

rated_somehow : (rows : List Row) (stage : ℤ) → IsTable rows → (v : Rated) × IsRated rows stage v
rated_somehow [] stage h = absurd (let m = h.least in omega arith)
rated_somehow (r ∷ rows) stage h = by_lt_z stage r.0 (λ k. (Below, k)) (λ k. by (on_or_above r rows stage k))
  where
    by : OnOrAbove (r ∷ rows) stage → (v : Rated) × IsRated (r ∷ rows) stage v
    by (inl (discharge, m)) = (Value discharge, m)
    by (inr m) = (Above, m)

pub rated_stands : (rows : List Row) (stage : ℤ) → IsTable rows → IsRated rows stage (rated rows stage)
rated_stands rows stage h =
    let some = rated_somehow rows stage h in
    subst (IsRated rows stage) (sym (rated_by_cases rows stage some.0 h some.1)) some.1

pub rated_once : (rows : List Row) (stage : ℤ) (v w : Rated) → IsTable rows → IsRated rows stage v → IsRated rows stage w → v ≡ w
rated_once rows stage v w h k m = sym (rated_by_cases rows stage v h k) ∙ rated_by_cases rows stage w h m
