-- Laws of tables: the stage of a discharge is the one that stands by cases.
use Rattle.std.specs.Prelude.{◌≡◌, ◌≢◌, ◌⊎◌, Bool, true, false, List, [], ◌∷◌, ◌++◌, ℤ, ◌<ℤ◌, ◌≤ℤ◌, int_lt, int_le, Option, None, Some, IsSome, IsSomeAnd, All, AllPairs, Contains}
use Rattle.std.specs.Ordering.{int_eq}
use Rattle.std.proofs.Common.{arith, refl, ap, sym, ◌∙◌, subst, inl, inr}
use Rattle.std.proofs.lemmas.Int.{ints, by_lt_z}
use Rattle.std.proofs.lemmas.Bool.Decides.{Decides-int_eq}
use Rattle.std.proofs.lemmas.List.{append-nil, append_assoc}
use Rattle.std.proofs.lemmas.List.Elements.{All-cons, All-nil, All-append, All-weaker, Contains-append_right}
use Rattle.rising.proofs.Parting.{lt_yes, lt_no, le_yes, le_no}
use Rattle.fixed_units.specs.Lines.{line_at}
use Rattle.rating_tables.specs.Table.{Row, IsTable, stage_of, stage_between, rows_short, turned}
use Rattle.rating_tables.specs.RatedDischarge.{IsFirstOf, IsInside, IsStageOf}
use Rattle.rating_tables.proofs.TableLemmas.{IsNoMore}
use Rattle.rising.specs.Ends.{first, last}
use Rattle.rising.proofs.Ends.{last-cons, last-append}
use Rattle.rating_tables.proofs.TableLawLemmas.{front_of, back_of, last_split, parts, behind_row, first_two}

-- the rows around a discharge
abbrev IsShort : ℤ → Row → Type 0
IsShort discharge r = r.1 <ℤ discharge

abbrev Reaches : ℤ → Row → Type 0
Reaches discharge r = discharge ≤ℤ r.1

stage_around : (rows front back : List Row) (discharge : ℤ) → rows ≡ front ++ back → All (IsShort discharge) front → All (Reaches discharge) back
    → stage_between (last front) (first back) discharge ≡ stage_of rows discharge
stage_around rows front back discharge e low high =
    let around = parts (λ r. int_lt r.1 discharge) (λ r. int_le discharge r.1) front back
    (All-weaker (IsShort discharge) (λ r. int_lt r.1 discharge ≡ true) (λ r h. lt_yes r.1 discharge h) front low)
    (All-weaker (IsShort discharge) (λ r. int_le discharge r.1 ≡ false) (λ r h. le_no discharge r.1 h) front low)
    (All-weaker (Reaches discharge) (λ r. int_lt r.1 discharge ≡ false) (λ r h. lt_no r.1 discharge h) back high)
    (All-weaker (Reaches discharge) (λ r. int_le discharge r.1 ≡ true) (λ r h. le_yes discharge r.1 h) back high) in
    ap (λ l. stage_between (last l) (first back) discharge) (sym around.0) ∙ ap (λ l. stage_between (last (rows_short discharge (front ++ back))) (first l) discharge) (sym around.1)
    ∙ ap (λ l. stage_of l discharge) (sym e)

-- the rows from one on that reaches a discharge, and those up to one that is short of it
from_row : (rows front : List Row) (r : Row) (back : List Row) (discharge : ℤ) → IsTable rows → rows ≡ front ++ r ∷ back → discharge ≤ℤ r.1 → All (Reaches discharge) (r ∷ back)
from_row rows front r back discharge h e k =
    let order = subst (AllPairs IsNoMore) e h.order.never_falling in
    All-cons (Reaches discharge) r back k (All-weaker (IsNoMore r) (Reaches discharge) (λ x m. omega (arith, ints)) back (back_of IsNoMore front r back order))

up_to_row : (rows front : List Row) (r : Row) (back : List Row) (discharge : ℤ) → IsTable rows → rows ≡ front ++ r ∷ back → r.1 <ℤ discharge → All (IsShort discharge) (front ++ r ∷ [])
up_to_row rows front r back discharge h e k =
    let order = subst (AllPairs IsNoMore) e h.order.never_falling in
    All-append (IsShort discharge) front (r ∷ []) (All-weaker (λ x. IsNoMore x r) (IsShort discharge) (λ x m. omega (arith, ints)) front (front_of IsNoMore front r back order))
    (All-cons (IsShort discharge) r [] k (All-nil (IsShort discharge)))

on_discharge : (short : Option Row) (s : Row) (discharge : ℤ) → s.1 ≡ discharge → stage_between short (Some s) discharge ≡ Some s.0
on_discharge None s discharge h = let e = (Decides-int_eq s.1 discharge).1 h in rw e refl
on_discharge (Some r) s discharge h = let e = (Decides-int_eq s.1 discharge).1 h in rw e refl

over : (x y : ℤ) → y <ℤ x → int_eq x y ≡ false
over x y h = by (int_eq x y) refl
  where
    by : (b : Bool) → int_eq x y ≡ b → int_eq x y ≡ false
    by true e = absurd (let same = (Decides-int_eq x y).0 e in omega (arith, ints))
    by false e = e

-- whatever stands by cases is the stage
below_all : (rows : List Row) (discharge : ℤ) → IsTable rows → IsSomeAnd (first rows) (λ r. discharge <ℤ r.1) → stage_of rows discharge ≡ None
below_all [] discharge h k = absurd k
below_all (r ∷ rows) discharge h k =
    let other = over r.1 discharge k in
    sym (stage_around (r ∷ rows) [] (r ∷ rows) discharge refl (All-nil (IsShort discharge)) (from_row (r ∷ rows) [] r rows discharge h refl (omega (arith, ints)))) ∙ rw other refl

above_all : (rows : List Row) (discharge : ℤ) → IsTable rows → IsSomeAnd (last rows) (λ r. r.1 <ℤ discharge) → stage_of rows discharge ≡ None
above_all rows discharge h k =
    let end = last_split (λ r. r.1 <ℤ discharge) rows k in
    sym (stage_around rows (end.front ++ end.row ∷ []) [] discharge (end.whole ∙ sym (append-nil (end.front ++ end.row ∷ [])))
    (up_to_row rows end.front end.row [] discharge h end.whole end.holds) (All-nil (Reaches discharge)))

short_of : (front : List Row) (discharge : ℤ) → All (λ r. r.1 ≤ℤ discharge) front → All (λ r. r.1 ≢ discharge) front → All (IsShort discharge) front
short_of front discharge h k = λ i d l.
    let low = h i d l in
    let other = k i d l in
    by_lt_z _ discharge (λ m. m) (λ m. absurd (other (omega (arith, ints))))

first_stage : (rows front : List Row) (r : Row) (back : List Row) → IsTable rows → rows ≡ front ++ r ∷ back → All (λ x. x.1 ≢ r.1) front → stage_of rows r.1 ≡ Some r.0
first_stage rows front r back h e k =
    let order = subst (AllPairs IsNoMore) e h.order.never_falling in
    sym (stage_around rows front (r ∷ back) r.1 e (short_of front r.1 (front_of IsNoMore front r back order) k) (from_row rows front r back r.1 h e (omega (arith, ints))))
    ∙ on_discharge (last front) r r.1 refl

between_stage : (rows front back : List Row) (r s : Row) (discharge : ℤ) → IsTable rows → rows ≡ front ++ r ∷ s ∷ back → r.1 <ℤ discharge → discharge <ℤ s.1
    → stage_of rows discharge ≡ Some (line_at (turned r) (turned s) discharge)
between_stage rows front back r s discharge h e low high =
    let whole : rows ≡ (front ++ r ∷ []) ++ s ∷ back = e ∙ sym (append_assoc front (r ∷ []) (s ∷ back)) in
    let other = over s.1 discharge high in
    sym (stage_around rows (front ++ r ∷ []) (s ∷ back) discharge whole (up_to_row rows front r (s ∷ back) discharge h e low)
    (from_row rows (front ++ r ∷ []) s back discharge h whole (omega (arith, ints))))
    ∙ ap (λ o. stage_between o (Some s) discharge) (last-append front r []) ∙ rw other refl

pub stage_by_cases : (rows : List Row) (discharge : ℤ) (o : Option ℤ) → IsTable rows → IsStageOf rows discharge o → stage_of rows discharge ≡ o
stage_by_cases rows discharge None h (inl k) = below_all rows discharge h k
stage_by_cases rows discharge None h (inr k) = above_all rows discharge h k
stage_by_cases rows discharge (Some stage) h (inl k) = first_stage rows k.front (stage, discharge) k.back h k.whole k.first
stage_by_cases rows discharge (Some stage) h (inr k) =
    between_stage rows k.0.front k.0.back k.0.lower k.0.upper discharge h k.0.neighbours k.0.above k.0.below ∙ ap (λ (s : ℤ). Some s) (sym k.1)

-- and something stands by cases
abbrev AtOrAbove : List Row → ℤ → Type 0
AtOrAbove rows discharge = ((stage : ℤ) × IsStageOf rows discharge (Some stage)) ⊎ IsSomeAnd (last rows) (λ r. r.1 <ℤ discharge)

lifted : (r s : Row) (rows : List Row) (discharge : ℤ) → r.1 <ℤ discharge → AtOrAbove (s ∷ rows) discharge → AtOrAbove (r ∷ s ∷ rows) discharge
lifted r s rows discharge h (inl (stage, inl k)) =
    inl (
      stage,
      inl (record {
        front = r ∷ k.front;
        back = k.back;
        whole = ap (λ l. r ∷ l) k.whole;
        first = All-cons (λ x. x.1 ≢ discharge) r k.front (λ e. omega (arith, ints)) k.first;
      }),
    )
lifted r s rows discharge h (inl (stage, inr k)) = inl (stage, inr (behind_row (λ x. x.1) r (s ∷ rows) discharge k.0, k.1))
lifted r s rows discharge h (inr k) = inr (subst (λ (o : Option Row). IsSomeAnd o (λ r. r.1 <ℤ discharge)) (sym (last-cons r s rows)) k)

here : (r : Row) (rows : List Row) (discharge : ℤ) → r.1 ≡ discharge → AtOrAbove (r ∷ rows) discharge
here r rows discharge h =
    let same : r ≡ (r.0, discharge) = ap (λ (x : ℤ). (r.0, x)) h in
    inl (r.0, inl (record { front = []; back = rows; whole = ap (λ (x : Row). x ∷ rows) same; first = All-nil (λ x. x.1 ≢ discharge) }))

at_or_above : (r : Row) (rows : List Row) (discharge : ℤ) → r.1 ≤ℤ discharge → AtOrAbove (r ∷ rows) discharge
at_or_above r [] discharge h = by_lt_z r.1 discharge (λ k. inr k) (λ k. here r [] discharge (omega (arith, ints)))
at_or_above r (s ∷ rows) discharge h =
    by_lt_z r.1 discharge
    (λ k. by_lt_z discharge s.1
    (λ m. inl (line_at (turned r) (turned s) discharge, inr (first_two (λ x. x.1) r s rows discharge k m, refl)))
    (λ m. lifted r s rows discharge k (at_or_above s rows discharge m)))
    (λ k. here r (s ∷ rows) discharge (omega (arith, ints)))

stage_somehow : (rows : List Row) (discharge : ℤ) → IsTable rows → (o : Option ℤ) × IsStageOf rows discharge o
stage_somehow [] discharge h = absurd (let m = h.least in omega arith)
stage_somehow (r ∷ rows) discharge h = by_lt_z discharge r.1 (λ k. (None, inl k)) (λ k. by (at_or_above r rows discharge k))
  where
    by : AtOrAbove (r ∷ rows) discharge → (o : Option ℤ) × IsStageOf (r ∷ rows) discharge o
    by (inl (stage, m)) = (Some stage, m)
    by (inr m) = (None, inr m)

pub stage_stands : (rows : List Row) (discharge : ℤ) → IsTable rows → IsStageOf rows discharge (stage_of rows discharge)
stage_stands rows discharge h =
    let some = stage_somehow rows discharge h in
    subst (IsStageOf rows discharge) (sym (stage_by_cases rows discharge some.0 h some.1)) some.1

pub stage_once : (rows : List Row) (discharge : ℤ) (a b : Option ℤ) → IsTable rows → IsStageOf rows discharge a → IsStageOf rows discharge b → a ≡ b
stage_once rows discharge a b h k m = sym (stage_by_cases rows discharge a h k) ∙ stage_by_cases rows discharge b h m

-- a discharge from the first row's to the last row's has one
not_both : (o : Option Row) (P Q : Row → Type 0) → ((r : Row) → P r → Q r → ⊥) → IsSomeAnd o P → IsSomeAnd o Q → ⊥
not_both None P Q h k m = k
not_both (Some r) P Q h k m = h r k m

pub inside_has_stage : (rows : List Row) (discharge : ℤ) → IsTable rows → IsInside rows discharge → IsSome (stage_of rows discharge)
inside_has_stage rows discharge h k = by (stage_of rows discharge) (stage_stands rows discharge h)
  where
    by : (o : Option ℤ) → IsStageOf rows discharge o → IsSome o
    by (Some stage) m = refl
    by None (inl m) = absurd (not_both (first rows) (λ r. r.1 ≤ℤ discharge) (λ r. discharge <ℤ r.1) (λ r a b. omega (arith, ints)) k.low m)
    by None (inr m) = absurd (not_both (last rows) (λ r. discharge ≤ℤ r.1) (λ r. r.1 <ℤ discharge) (λ r a b. omega (arith, ints)) k.high m)

-- the first row that has a row's discharge
first_row : (discharge : ℤ) (front : List Row) (r : Row) (back : List Row) → r.1 ≡ discharge → (stage : ℤ) × IsFirstOf (front ++ r ∷ back) discharge stage
first_row discharge [] r back h =
    let same : r ≡ (r.0, discharge) = ap (λ (x : ℤ). (r.0, x)) h in
    (r.0, record { front = []; back = back; whole = ap (λ (x : Row). x ∷ back) same; first = All-nil (λ x. x.1 ≢ discharge) })
first_row discharge (x ∷ front) r back h = by (first_row discharge front r back h) (int_eq x.1 discharge) refl
  where
    by : ((stage : ℤ) × IsFirstOf (front ++ r ∷ back) discharge stage) → (b : Bool) → int_eq x.1 discharge ≡ b → (stage : ℤ) × IsFirstOf (x ∷ front ++ r ∷ back) discharge stage
    by rest true e =
        let same : x ≡ (x.0, discharge) = ap (λ (y : ℤ). (x.0, y)) ((Decides-int_eq x.1 discharge).0 e) in
        (x.0, record { front = []; back = front ++ r ∷ back; whole = ap (λ (y : Row). y ∷ front ++ r ∷ back) same; first = All-nil (λ y. y.1 ≢ discharge) })
    by rest false e = (
      rest.0,
      record {
        front = x ∷ rest.1.front;
        back = rest.1.back;
        whole = ap (λ l. x ∷ l) rest.1.whole;
        first = All-cons (λ y. y.1 ≢ discharge) x rest.1.front (λ f. absurd (let g = (Decides-int_eq x.1 discharge).1 f in cc)) rest.1.first;
      },
    )

-- the stage of a row's discharge is that of a row that has it
pub row_has_stage : (rows front back : List Row) (r : Row) → IsTable rows → rows ≡ front ++ r ∷ back
    → (s : Row) × Contains rows s × (s.1 ≡ r.1) × (stage_of rows r.1 ≡ Some s.0)
row_has_stage rows front back r h e =
    let some = first_row r.1 front r back refl in
    let whole : rows ≡ some.1.front ++ (some.0, r.1) ∷ some.1.back = e ∙ some.1.whole in (
      (some.0, r.1),
      subst (λ (l : List Row). Contains l (some.0, r.1)) (sym whole) (Contains-append_right some.1.front ((some.0, r.1) ∷ some.1.back) (some.0, r.1) (0, omega arith, refl)),
      refl,
      first_stage rows some.1.front (some.0, r.1) some.1.back h whole some.1.first,
    )
