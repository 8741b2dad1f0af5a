-- The values of curves and series by the cases of the rules, of which exactly one holds.
use Rattle.std.specs.Prelude.{◌≡◌, Bool, true, false, cond, List, [], ◌∷◌, ◌++◌, ℕ, zero, suc, ◌<◌, ◌≤◌, ◌-◌, length, slice_get, Option, unwrap_or, ℤ, pos, ◌<ℤ◌, ◌≤ℤ◌, int_lt, int_le, Some, All, ◌⊎◌}
use Rattle.std.specs.Ordering.{int_cmp, is_le}
use Rattle.std.proofs.Common.{arith, refl, ap, get_or, sym, ◌∙◌, subst, inl, inr}
use Rattle.std.proofs.lemmas.Int.{ints, by_lt_z}
use Rattle.std.proofs.lemmas.Option.{slice_get_within}
use Rattle.std.proofs.lemmas.List.Elements.{All-head, All-cons, All-nil, All-weaker, filter-append}
use Rattle.fixed_units.specs.Lines.{line_at}
use Rattle.fixed_units.proofs.LineLemmas.{line-first, line-last}
use Rattle.rising.specs.Lists.{up_to, after}
use Rattle.rising.specs.Lists.{IsRising as Rises}
use Rattle.rising.specs.Ends.{first, last}
use Rattle.curves.specs.Curve.{stage_of, amount_by, curve_value, IsCurveValue}
use Rattle.curves.specs.Entries.{IsRising, instant_of, amount_in_force, amount_prorated, series_value, IsSeriesValue}
use Rattle.curves.specs.declared.entries.Entry.{Entry}
use Rattle.rising.proofs.Selecting.{AllPairs-head, AllPairs-tail, AllPairs-across, AllPairs-back}
use Rattle.rising.proofs.Parting.{IsUpTo, IsAfter, le_yes, lt_no, all_up_to, none_up_to, all_after, none_after}
use Rattle.rising.proofs.Ends.{last-append}

-- what stands behind an element of a rising list stands after each number up to it
rest_after : {X : Type 0} (place : X → ℤ) (n : ℤ) (b : X) (bs : List X) → Rises place (b ∷ bs) → n <ℤ place b → All (IsAfter place n) (b ∷ bs)
rest_after place n b bs h k =
    All-cons (IsAfter place n) b bs k
    (All-weaker (λ y. place b <ℤ place y) (IsAfter place n) (λ y l. omega (arith, ints, k, l)) bs (AllPairs-head (λ x y. place x <ℤ place y) b bs h))

front_up_to : {X : Type 0} (place : X → ℤ) (n : ℤ) (xs : List X) (a : X) (bs : List X) → Rises place (xs ++ a ∷ bs) → place a ≤ℤ n → All (IsUpTo place n) xs
front_up_to place n xs a bs h k =
    All-weaker (λ x. All (λ y. place x <ℤ place y) (a ∷ bs)) (IsUpTo place n)
    (λ x l. let m = All-head (λ y. place x <ℤ place y) a bs l in omega (arith, ints, k, m)) xs (AllPairs-across (λ x y. place x <ℤ place y) xs (a ∷ bs) h)

-- the neighbours of a number that stands between an element and those after it
last_at : {X : Type 0} (place : X → ℤ) (n : ℤ) (xs : List X) (a : X) (bs : List X) → Rises place (xs ++ a ∷ bs) → place a ≤ℤ n → All (IsAfter place n) bs
    → last (up_to place n (xs ++ a ∷ bs)) ≡ Some a
last_at place n xs a bs h k l =
    let e : up_to place n xs ≡ xs = all_up_to place n xs (front_up_to place n xs a bs h k) in
    let f : up_to place n bs ≡ [] = none_up_to place n bs l in
    let g = le_yes (place a) n k in
    let i = filter-append (λ x. int_le (place x) n) xs (a ∷ bs) in
    rw (i, e, g, f) (last-append xs a [])

after_at : {X : Type 0} (place : X → ℤ) (n : ℤ) (xs : List X) (a : X) (bs : List X) → Rises place (xs ++ a ∷ bs) → place a ≤ℤ n → All (IsAfter place n) bs
    → after place n (xs ++ a ∷ bs) ≡ bs
after_at place n xs a bs h k l =
    let e : after place n xs ≡ [] = none_after place n xs (front_up_to place n xs a bs h k) in
    let f : after place n bs ≡ bs = all_after place n bs l in
    let g = lt_no n (place a) k in
    let i = filter-append (λ x. int_lt n (place x)) xs (a ∷ bs) in
    rw (i, e, g, f) refl

-- where a number stands in a rising list
pub record IsPlaced {X : Type 0} (place : X → ℤ) (n : ℤ) (xs : List X) : Type 0 where
  pub front : List X
  pub here : X
  pub back : List X
  pub whole : xs ≡ front ++ here ∷ back
  pub upto : place here ≤ℤ n
  pub later : All (IsAfter place n) back

placed_step : {X : Type 0} (place : X → ℤ) (n : ℤ) (x : X) (xs : List X) → Rises place (x ∷ xs) → (All (IsAfter place n) xs) ⊎ (IsPlaced place n xs)
    → (place x ≤ℤ n) ⊎ (n <ℤ place x) → (All (IsAfter place n) (x ∷ xs)) ⊎ (IsPlaced place n (x ∷ xs))
placed_step place n x xs h p (inr k) = inl (rest_after place n x xs h k)
placed_step place n x xs h (inl l) (inl k) = inr (record { front = []; here = x; back = xs; whole = refl; upto = k; later = l })
placed_step place n x xs h (inr p) (inl k) =
    inr (record { front = x ∷ p.front; here = p.here; back = p.back; whole = ap (λ l. x ∷ l) p.whole; upto = p.upto; later = p.later })

either_way : (x y : ℤ) → (x ≤ℤ y) ⊎ (y <ℤ x)
either_way x y = by_lt_z y x (λ h. inr h) (λ h. inl h)

placed : {X : Type 0} (place : X → ℤ) (n : ℤ) (xs : List X) → Rises place xs → (All (IsAfter place n) xs) ⊎ (IsPlaced place n xs)
placed place n [] h = inl (All-nil (IsAfter place n))
placed place n (x ∷ xs) h =
    placed_step place n x xs h (placed place n xs (AllPairs-tail (λ a b. place a <ℤ place b) x xs h)) (either_way (place x) n)

-- the lines of a curve meet its points
pub start_of : (p q : ℤ × ℤ) (stage : ℤ) → p.0 <ℤ q.0 → stage ≡ p.0 → line_at p q stage ≡ p.1
start_of p q stage h e = ap (line_at p q) e ∙ line-first p q h

pub end_of : (p q : ℤ × ℤ) (stage : ℤ) → p.0 <ℤ q.0 → stage ≡ q.0 → line_at p q stage ≡ q.1
end_of p q stage h e = ap (line_at p q) e ∙ line-last p q h

-- the value where a point and those behind it are told
curve_at : (stage : ℤ) (points ps : List (ℤ × ℤ)) (p : ℤ × ℤ) (qs : List (ℤ × ℤ)) → Rises stage_of points → points ≡ ps ++ p ∷ qs → p.0 ≤ℤ stage
    → All (IsAfter stage_of stage) qs → curve_value points stage ≡ amount_by (Some p) (first qs) stage
curve_at stage points ps p qs h e k l =
    let rises : Rises stage_of (ps ++ p ∷ qs) = subst (λ (x : List (ℤ × ℤ)). Rises stage_of x) e h in
    let f = last_at stage_of stage ps p qs rises k l in
    let g = after_at stage_of stage ps p qs rises k l in
    rw (e, f, g) refl

on_point : (stage : ℤ) (p : ℤ × ℤ) (qs : List (ℤ × ℤ)) → Rises stage_of (p ∷ qs) → stage ≡ p.0 → amount_by (Some p) (first qs) stage ≡ p.1
on_point stage p [] h e = refl
on_point stage p (q ∷ qs) h e = start_of p q stage (All-head (λ y. p.0 <ℤ y.0) q qs (AllPairs-head (λ a b. a.0 <ℤ b.0) p (q ∷ qs) h)) e

curve_on : (stage : ℤ) (points ps : List (ℤ × ℤ)) (p : ℤ × ℤ) (qs : List (ℤ × ℤ)) → Rises stage_of points → points ≡ ps ++ p ∷ qs → stage ≡ p.0
    → curve_value points stage ≡ p.1
curve_on stage points ps p qs h e k =
    let rises : Rises stage_of (p ∷ qs) = AllPairs-back (λ a b. a.0 <ℤ b.0) ps (p ∷ qs) (subst (λ (x : List (ℤ × ℤ)). Rises stage_of x) e h) in
    let later : All (IsAfter stage_of stage) qs =
    All-weaker (λ y. p.0 <ℤ y.0) (IsAfter stage_of stage) (λ y l. omega (arith, ints, k, l)) qs (AllPairs-head (λ a b. a.0 <ℤ b.0) p qs rises) in
    curve_at stage points ps p qs h e (omega (arith, ints, k)) later ∙ on_point stage p qs rises k

curve_below : (stage : ℤ) (points : List (ℤ × ℤ)) (p : ℤ × ℤ) (ps : List (ℤ × ℤ)) → Rises stage_of points → points ≡ p ∷ ps → stage <ℤ p.0
    → curve_value points stage ≡ p.1
curve_below stage points p ps h e k =
    let all : All (IsAfter stage_of stage) (p ∷ ps) = rest_after stage_of stage p ps (subst (λ (x : List (ℤ × ℤ)). Rises stage_of x) e h) k in
    let f = none_up_to stage_of stage (p ∷ ps) all in
    let g = all_after stage_of stage (p ∷ ps) all in
    rw (e, f, g) refl

equal_or_less : (x y : ℤ) → x ≤ℤ y → (x ≡ y) ⊎ (x <ℤ y)
equal_or_less x y h = by_lt_z x y (λ k. inr k) (λ k. inl (omega (arith, ints, h, k)))

curve_low : (stage : ℤ) (points : List (ℤ × ℤ)) (p : ℤ × ℤ) (ps : List (ℤ × ℤ)) → Rises stage_of points → points ≡ p ∷ ps
    → (stage ≡ p.0) ⊎ (stage <ℤ p.0) → curve_value points stage ≡ p.1
curve_low stage points p ps h e (inl k) = curve_on stage points [] p ps h e k
curve_low stage points p ps h e (inr k) = curve_below stage points p ps h e k

joined : {X : Type 0} (ps : List X) (p : X) (qs : List X) → ps ++ p ∷ qs ≡ (ps ++ p ∷ []) ++ qs
joined [] p qs = refl
joined (x ∷ xs) p qs = ap (λ l. x ∷ l) (joined xs p qs)

curve_between : (stage : ℤ) (points ps qs : List (ℤ × ℤ)) (p q : ℤ × ℤ) → Rises stage_of points → points ≡ ps ++ p ∷ q ∷ qs → p.0 ≤ℤ stage
    → (stage ≡ q.0) ⊎ (stage <ℤ q.0) → curve_value points stage ≡ line_at p q stage
curve_between stage points ps qs p q h e k (inl l) =
    let rises : Rises stage_of (p ∷ q ∷ qs) = AllPairs-back (λ a b. a.0 <ℤ b.0) ps (p ∷ q ∷ qs) (subst (λ (x : List (ℤ × ℤ)). Rises stage_of x) e h) in
    let less : p.0 <ℤ q.0 = All-head (λ y. p.0 <ℤ y.0) q qs (AllPairs-head (λ a b. a.0 <ℤ b.0) p (q ∷ qs) rises) in
    curve_on stage points (ps ++ p ∷ []) q qs h (e ∙ joined ps p (q ∷ qs)) l ∙ sym (end_of p q stage less l)
curve_between stage points ps qs p q h e k (inr l) =
    let rises : Rises stage_of (q ∷ qs) =
    AllPairs-tail (λ a b. a.0 <ℤ b.0) p (q ∷ qs) (AllPairs-back (λ a b. a.0 <ℤ b.0) ps (p ∷ q ∷ qs) (subst (λ (x : List (ℤ × ℤ)). Rises stage_of x) e h)) in
    curve_at stage points ps p (q ∷ qs) h e k (rest_after stage_of stage q qs rises l)

pub curve_cases : (points : List (ℤ × ℤ)) (stage : ℤ) → Rises stage_of points → IsCurveValue points stage (curve_value points stage)
curve_cases points stage h = record {
  low = λ p ps e k. curve_low stage points p ps h e (equal_or_less stage p.0 k);
  high = λ ps p e k. curve_at stage points ps p [] h e k (All-nil (IsAfter stage_of stage));
  between = λ ps qs p q e k l. curve_between stage points ps qs p q h e k (equal_or_less stage q.0 l);
}

same_back : (points ps : List (ℤ × ℤ)) (p : ℤ × ℤ) (qs : List (ℤ × ℤ)) (stage v w : ℤ) → points ≡ ps ++ p ∷ qs → p.0 ≤ℤ stage
    → All (IsAfter stage_of stage) qs → IsCurveValue points stage v → IsCurveValue points stage w → v ≡ w
same_back points ps p [] stage v w e k l m n = m.high ps p e k ∙ sym (n.high ps p e k)
same_back points ps p (q ∷ qs) stage v w e k l m n =
    let f = All-head (IsAfter stage_of stage) q qs l in
    let g : stage ≤ℤ q.0 = omega (arith, ints, f) in
    m.between ps qs p q e k g ∙ sym (n.between ps qs p q e k g)

same_front : (points : List (ℤ × ℤ)) (stage v w : ℤ) → 0 < length points → All (IsAfter stage_of stage) points
    → IsCurveValue points stage v → IsCurveValue points stage w → v ≡ w
same_front [] stage v w h k m n = absurd (omega (arith, h))
same_front (p ∷ ps) stage v w h k m n =
    let f = All-head (IsAfter stage_of stage) p ps k in
    let g : stage ≤ℤ p.0 = omega (arith, ints, f) in
    m.low p ps refl g ∙ sym (n.low p ps refl g)

pub curve_unique : (points : List (ℤ × ℤ)) (stage v w : ℤ) → 0 < length points → Rises stage_of points → IsCurveValue points stage v → IsCurveValue points stage w → v ≡ w
curve_unique points stage v w some h m n =
    elim (placed stage_of stage points h) [
      | inl k ↦ same_front points stage v w some k m n
      | inr p ↦ same_back points p.front p.here p.back stage v w p.whole p.upto p.later m n
    ]

-- what a test of two numbers says
pub told_le : (x y : ℤ) → is_le (int_cmp x y) ≡ true → x ≤ℤ y
told_le x y h = grind (arith, ints)

pub told_gt : (x y : ℤ) → is_le (int_cmp x y) ≡ false → y <ℤ x
told_gt x y h = grind (arith, ints)

-- what two neighbours say at a stage, where no other ones say it
pub record IsPair (points : List (ℤ × ℤ)) (p q : ℤ × ℤ) (stage : ℤ) : Type 0 where
  pub rising : p.0 <ℤ q.0
  pub low : stage ≤ℤ p.0 → curve_value points stage ≡ p.1
  pub high : q.0 ≤ℤ stage → curve_value points stage ≡ q.1
  pub between : p.0 ≤ℤ stage → stage ≤ℤ q.0 → curve_value points stage ≡ line_at p q stage

pub pair_of_two : (points : List (ℤ × ℤ)) (p q : ℤ × ℤ) (stage : ℤ) → 2 ≤ length points → length points ≤ 2 → Rises stage_of points
    → p ≡ get_or points 0 p → q ≡ get_or points 1 q → IsPair points p q stage
pair_of_two [] p q stage some few h e f = absurd (omega (arith, some))
pair_of_two (a ∷ []) p q stage some few h e f = absurd (omega (arith, some))
pair_of_two (a ∷ b ∷ []) p q stage some few h e f =
    let cases = curve_cases (a ∷ b ∷ []) stage h in
    subst (λ (x : ℤ × ℤ). IsPair (a ∷ b ∷ []) x q stage) (sym e) (subst (λ (y : ℤ × ℤ). IsPair (a ∷ b ∷ []) a y stage) (sym f)
    (record {
      rising = All-head (λ y. a.0 <ℤ y.0) b [] (AllPairs-head (λ x y. x.0 <ℤ y.0) a (b ∷ []) h);
      low = λ k. cases.low a (b ∷ []) refl k;
      high = λ k. cases.high (a ∷ []) b refl k;
      between = λ k l. cases.between [] [] a b refl k l;
    }))
pair_of_two (a ∷ b ∷ c ∷ points) p q stage some few h e f = absurd (omega (arith, few))

pub first_of_three : (points : List (ℤ × ℤ)) (p q : ℤ × ℤ) (stage : ℤ) → 3 ≤ length points → length points ≤ 3 → Rises stage_of points
    → p ≡ get_or points 0 p → q ≡ get_or points 1 q → stage <ℤ q.0 → IsPair points p q stage
first_of_three [] p q stage some few h e f below = absurd (omega (arith, some))
first_of_three (a ∷ []) p q stage some few h e f below = absurd (omega (arith, some))
first_of_three (a ∷ b ∷ []) p q stage some few h e f below = absurd (omega (arith, some))
first_of_three (a ∷ b ∷ c ∷ []) p q stage some few h e f below =
    let cases = curve_cases (a ∷ b ∷ c ∷ []) stage h in
    let under : stage <ℤ b.0 = subst (λ (x : ℤ × ℤ). stage <ℤ x.0) f below in
    subst (λ (x : ℤ × ℤ). IsPair (a ∷ b ∷ c ∷ []) x q stage) (sym e) (subst (λ (y : ℤ × ℤ). IsPair (a ∷ b ∷ c ∷ []) a y stage) (sym f)
    (record {
      rising = All-head (λ y. a.0 <ℤ y.0) b (c ∷ []) (AllPairs-head (λ x y. x.0 <ℤ y.0) a (b ∷ c ∷ []) h);
      low = λ k. cases.low a (b ∷ c ∷ []) refl k;
      high = λ k. absurd (omega (arith, ints, k, under));
      between = λ k l. cases.between [] (c ∷ []) a b refl k l;
    }))
first_of_three (a ∷ b ∷ c ∷ d ∷ points) p q stage some few h e f below = absurd (omega (arith, few))

pub last_of_three : (points : List (ℤ × ℤ)) (p q : ℤ × ℤ) (stage : ℤ) → 3 ≤ length points → length points ≤ 3 → Rises stage_of points
    → p ≡ get_or points 1 p → q ≡ get_or points 2 q → p.0 ≤ℤ stage → IsPair points p q stage
last_of_three [] p q stage some few h e f above = absurd (omega (arith, some))
last_of_three (a ∷ []) p q stage some few h e f above = absurd (omega (arith, some))
last_of_three (a ∷ b ∷ []) p q stage some few h e f above = absurd (omega (arith, some))
last_of_three (a ∷ b ∷ c ∷ []) p q stage some few h e f above =
    let cases = curve_cases (a ∷ b ∷ c ∷ []) stage h in
    let over : b.0 ≤ℤ stage = subst (λ (x : ℤ × ℤ). x.0 ≤ℤ stage) e above in
    let rises : Rises stage_of (b ∷ c ∷ []) = AllPairs-tail (λ x y. x.0 <ℤ y.0) a (b ∷ c ∷ []) h in
    let less : b.0 <ℤ c.0 = All-head (λ y. b.0 <ℤ y.0) c [] (AllPairs-head (λ x y. x.0 <ℤ y.0) b (c ∷ []) rises) in
    subst (λ (x : ℤ × ℤ). IsPair (a ∷ b ∷ c ∷ []) x q stage) (sym e) (subst (λ (y : ℤ × ℤ). IsPair (a ∷ b ∷ c ∷ []) b y stage) (sym f)
    (record {
      rising = less;
      low = λ k. curve_on stage (a ∷ b ∷ c ∷ []) (a ∷ []) b (c ∷ []) h refl (omega (arith, ints, k, over));
      high = λ k. cases.high (a ∷ b ∷ []) c refl k;
      between = λ k l. cases.between (a ∷ []) [] b c refl k l;
    }))
last_of_three (a ∷ b ∷ c ∷ d ∷ points) p q stage some few h e f above = absurd (omega (arith, few))

-- a value that they say is the curve's
pub record IsAcross (p q : ℤ × ℤ) (stage v : ℤ) : Type 0 where
  pub low : stage ≤ℤ p.0 → v ≡ p.1
  pub high : q.0 ≤ℤ stage → v ≡ q.1
  pub between : p.0 ≤ℤ stage → stage ≤ℤ q.0 → v ≡ line_at p q stage

pub pair_value : (points : List (ℤ × ℤ)) (p q : ℤ × ℤ) (stage v : ℤ) → IsPair points p q stage → IsAcross p q stage v → v ≡ curve_value points stage
pair_value points p q stage v h a = by (either_way stage p.0) (either_way q.0 stage)
  where
    by : (stage ≤ℤ p.0) ⊎ (p.0 <ℤ stage) → (q.0 ≤ℤ stage) ⊎ (stage <ℤ q.0) → v ≡ curve_value points stage
    by (inl k) l = a.low k ∙ sym (h.low k)
    by (inr k) (inl l) = a.high l ∙ sym (h.high l)
    by (inr k) (inr l) = let m : p.0 ≤ℤ stage = omega (arith, ints, k) in let n : stage ≤ℤ q.0 = omega (arith, ints, l) in a.between m n ∙ sym (h.between m n)

-- the same of series
series_at : (at stage : ℤ) (entries es : List Entry) (e : Entry) (ns : List Entry) → IsRising entries → entries ≡ es ++ e ∷ ns → e.at ≤ℤ at
    → All (IsAfter instant_of at) ns → series_value entries at stage ≡ amount_in_force (Some e) (first ns) at stage
series_at at stage entries es e ns h whole k l =
    let rises : IsRising (es ++ e ∷ ns) = subst (λ (x : List Entry). IsRising x) whole h in
    let f = last_at instant_of at es e ns rises k l in
    let g = after_at instant_of at es e ns rises k l in
    rw (whole, f, g) refl

next_later : (at : ℤ) (entries es ns : List Entry) (e n : Entry) → IsRising entries → entries ≡ es ++ e ∷ n ∷ ns → at <ℤ n.at
    → All (IsAfter instant_of at) (n ∷ ns)
next_later at entries es ns e n h whole k =
    let rises : IsRising (n ∷ ns) =
    AllPairs-tail (λ a b. a.at <ℤ b.at) e (n ∷ ns) (AllPairs-back (λ a b. a.at <ℤ b.at) es (e ∷ n ∷ ns) (subst (λ (x : List Entry). IsRising x) whole h)) in
    rest_after instant_of at n ns rises k

series_before : (at stage : ℤ) (entries : List Entry) → All (IsAfter instant_of at) entries → series_value entries at stage ≡ pos 0
series_before at stage entries h = let e = none_up_to instant_of at entries h in rw e refl

pub series_cases : (entries : List Entry) (at stage : ℤ) → IsRising entries → IsSeriesValue entries at stage (series_value entries at stage)
series_cases entries at stage h = record {
  before = λ k. series_before at stage entries k;
  last = λ es e whole k. series_at at stage entries es e [] h whole k (All-nil (IsAfter instant_of at));
  held = λ es ns e n whole k l f.
      series_at at stage entries es e (n ∷ ns) h whole k (next_later at entries es ns e n h whole l)
      ∙ ap (λ b. cond b (amount_prorated e n at stage) (curve_value e.curve stage)) f;
  prorated = λ es ns e n whole k l f.
      series_at at stage entries es e (n ∷ ns) h whole k (next_later at entries es ns e n h whole l)
      ∙ ap (λ b. cond b (amount_prorated e n at stage) (curve_value e.curve stage)) f;
}

-- the last entry governs from its instant on
whole_at : (entries : List Entry) (k : ℕ) (e : Entry) → Some e ≡ slice_get entries k → length entries ≡ suc k → (es : List Entry) × (entries ≡ es ++ e ∷ [])
whole_at [] k e h l = absurd (omega (arith, l))
whole_at (x ∷ []) zero e h l = ([], ap (λ (o : Option Entry). unwrap_or o e ∷ []) (sym h))
whole_at (x ∷ []) (suc k) e h l = absurd (omega (arith, l))
whole_at (x ∷ y ∷ ys) zero e h l = absurd (omega (arith, l))
whole_at (x ∷ y ∷ ys) (suc k) e h l =
    let rest = whole_at (y ∷ ys) k e h (omega (arith, l)) in (x ∷ rest.0, ap (λ l. x ∷ l) rest.1)

pub last_governs : (entries : List Entry) (e : Entry) (at stage : ℤ) → IsRising entries → Some e ≡ slice_get entries (length entries - 1) → e.at ≤ℤ at
    → curve_value e.curve stage ≡ series_value entries at stage
last_governs entries e at stage h found k =
    let inside = slice_get_within entries (length entries - 1) e (sym found) in
    let whole = whole_at entries (length entries - 1) e found (omega (arith, inside)) in
    sym ((series_cases entries at stage h).last whole.0 e whole.1 k)

same_next : (entries es : List Entry) (e n : Entry) (ns : List Entry) (at stage v w : ℤ) (b : Bool) → entries ≡ es ++ e ∷ n ∷ ns → e.at ≤ℤ at
    → at <ℤ n.at → e.prorate ≡ b → IsSeriesValue entries at stage v → IsSeriesValue entries at stage w → v ≡ w
same_next entries es e n ns at stage v w true whole k l f p q = p.prorated es ns e n whole k l f ∙ sym (q.prorated es ns e n whole k l f)
same_next entries es e n ns at stage v w false whole k l f p q = p.held es ns e n whole k l f ∙ sym (q.held es ns e n whole k l f)

same_rest : (entries es : List Entry) (e : Entry) (ns : List Entry) (at stage v w : ℤ) → entries ≡ es ++ e ∷ ns → e.at ≤ℤ at
    → All (IsAfter instant_of at) ns → IsSeriesValue entries at stage v → IsSeriesValue entries at stage w → v ≡ w
same_rest entries es e [] at stage v w whole k l p q = p.last es e whole k ∙ sym (q.last es e whole k)
same_rest entries es e (n ∷ ns) at stage v w whole k l p q =
    same_next entries es e n ns at stage v w e.prorate whole k (All-head (IsAfter instant_of at) n ns l) refl p q

pub series_unique : (entries : List Entry) (at stage v w : ℤ) → IsRising entries → IsSeriesValue entries at stage v → IsSeriesValue entries at stage w → v ≡ w
series_unique entries at stage v w h p q =
    elim (placed instant_of at entries h) [
      | inl k ↦ p.before k ∙ sym (q.before k)
      | inr r ↦ same_rest entries r.front r.here r.back at stage v w r.whole r.upto r.later p q
    ]
