-- Where a reading is put, and what a list of readings put adds.
use Rattle.std.specs.Prelude.{◌≡◌, ◌≢◌, Bool, true, false, cond, not, is_none, is_some, List, [], ◌∷◌, ◌++◌, slice_get, ◌+◌, ◌-◌, ◌<◌, ◌≤◌, ◌<ℤ◌, ◌≤ℤ◌, ℕ, ℤ, suc, Option, Some, None, take, drop, set, get_or, length, filter, int_lt, int_le, All}
use Rattle.std.specs.Option.{option_or}
use Rattle.std.specs.Ordering.{int_eq}
use Rattle.std.proofs.Common.{arith, refl, ap, sym, ◌∙◌, subst, inl, inr, length-append, drop-cons, length-drop}
use Rattle.std.proofs.lemmas.Bool.{cases_lt}
use Rattle.std.proofs.lemmas.Bool.Decides.{Decides-int_eq}
use Rattle.std.proofs.lemmas.Int.{ints}
use Rattle.std.proofs.lemmas.Option.{none-some, get_or_from_slice_get, slice_get-get_or}
use Rattle.std.proofs.Math.Seq.{get_or-append_seam}
use Rattle.std.proofs.lemmas.List.{length-take-le, get_or_default, get_or_append_left, take-append-drop, drop-append-le, append-nil, append_assoc}
use Rattle.std.proofs.lemmas.List.Elements.{filter-append, All-weaker, All-drop, All-head, All-tail}
use Rattle.std.proofs.lemmas.List.Filters.{length-filter_both}
use Rattle.rising.specs.Ends.{first, last}
use Rattle.rising.proofs.Selecting.{AllPairs-append, AllPairs-back}
use Rattle.rising.proofs.Parting.{IsAfter, lt_yes, le_yes}
use Rattle.rising.proofs.Placing.{IsBefore, before_is_before, from_is_from, write_is_put, at_filter, at_put, at_put_other, none_stands, put_rises, IsTold, told, told_none}
use Rattle.rising.proofs.Splitting.{none_before, rest_rises, rest_is_later, whole}
use Rattle.fixed_units.specs.declared.readings.Reading.{Reading}
use Rattle.readings.specs.Readings.{IsRising, instant_of, before_instant, from_instant, after_instant, at_instant, put, put_all}
use Rattle.readings.proofs.HalvesLemmas.{all_before, cut, front_of, back_of}

-- a part has no more readings than the whole
pub fewer : (p : Reading → Bool) (rs : List Reading) → length (filter p rs) ≤ length rs
fewer p rs = omega (arith, length-filter_both p (λ r. not (p r)) (λ r. refl) rs)

-- the place of an instant among the readings from an earlier place on tells its place among all
place_behind : (at : ℤ) (rs : List Reading) (from k : ℕ) → IsRising rs → from ≤ length (before_instant at rs) → k ≤ length (drop from rs)
    → take k (drop from rs) ≡ before_instant at (drop from rs) → from + k ≡ length (before_instant at rs)
place_behind at rs from k h l m e =
    let B = before_instant at rs in
    let F = from_instant at rs in
    let rest : drop from rs ≡ drop from B ++ F = ap (drop from) (cut at rs h) ∙ drop-append-le from B F l in
    let early : before_instant at (drop from B) ≡ drop from B =
    all_before at (drop from B) (All-drop (IsBefore instant_of at) from B (before_is_before instant_of at rs)) in
    let late : before_instant at F ≡ [] = none_before instant_of at F (from_is_from instant_of at rs) in
    let whole : before_instant at (drop from rs) ≡ drop from B =
    ap (before_instant at) rest ∙ filter-append (λ r. int_lt r.at at) (drop from B) F ∙ rw (early, late) (append-nil (drop from B)) in
    let count : length (take k (drop from rs)) ≡ length (drop from B) = ap length (e ∙ whole) in
    omega (arith, l, count, length-take-le k (drop from rs) m, length-drop from B)

pub place_of : (at : ℤ) (rs part : List Reading) (from k : ℕ) → IsRising rs → from ≤ length (before_instant at rs) → part ≡ drop from rs → k ≤ length part
    → take k part ≡ before_instant at part → from + k ≡ length (before_instant at rs)
place_of at rs part from k h l e m f =
    place_behind at rs from k h l (subst (λ (x : List Reading). k ≤ length x) e m) (subst (λ (x : List Reading). take k x ≡ before_instant at x) e f)

-- what the reading in the place tells
pub told_there : (at : ℤ) (rs : List Reading) (place : ℕ) (r : Reading) (b : Bool) → IsRising rs → place ≡ length (before_instant at rs)
    → slice_get rs place ≡ Some r → place < length rs → b ≡ int_eq r.at at → IsTold instant_of at rs place b
told_there at rs place r b h p g l e =
    told instant_of at rs place r b h (front_of at rs place h (sym p)) (back_of at rs place h (sym p)) l
    (e ∙ ap (λ (x : Reading). int_eq x.at at) (sym (get_or_from_slice_get rs place r r g)))

pub told_behind : (at : ℤ) (rs : List Reading) (place : ℕ) → IsRising rs → place ≡ length (before_instant at rs) → length rs ≤ place
    → drop place rs ≡ after_instant at rs
told_behind at rs place h p l =
    (told_none instant_of at rs place false h (front_of at rs place h (sym p)) (back_of at rs place h (sym p)) l refl).elsewhere refl

-- a reading written over the one in its place, or put before those after it
pub written : (r : Reading) (rs : List Reading) (place : ℕ) → IsRising rs → place ≡ length (before_instant r.at rs) → place < length rs
    → drop (place + 1) rs ≡ after_instant r.at rs → set rs place r ≡ put r rs
written r rs place h e l back = write_is_put instant_of r rs place l (front_of r.at rs place h (sym e)) back

pub inserted : (r : Reading) (rs : List Reading) (place : ℕ) → IsRising rs → place ≡ length (before_instant r.at rs)
    → drop place rs ≡ after_instant r.at rs → take place rs ++ r ∷ drop place rs ≡ put r rs
inserted r rs place h e back = let front = front_of r.at rs place h (sym e) in rw (front, back) refl

-- a later reading stands behind the one that was put
pub next_place : (r s : Reading) (rs : List Reading) → r.at <ℤ s.at → length (before_instant r.at rs) + 1 ≤ length (before_instant s.at (put r rs))
next_place r s rs l =
    let B = before_instant r.at rs in
    let A = after_instant r.at rs in
    let early : before_instant s.at B ≡ B =
    all_before s.at B (All-weaker (IsBefore instant_of r.at) (IsBefore instant_of s.at) (λ x k. omega (arith, ints, l, k)) B (before_is_before instant_of r.at rs)) in
    let here = lt_yes r.at s.at l in
    let whole : before_instant s.at (put r rs) ≡ B ++ r ∷ before_instant s.at A =
    filter-append (λ x. int_lt x.at s.at) B (r ∷ A) ∙ rw (early, here) refl in
    omega (arith, ap length whole, length-append B (r ∷ before_instant s.at A))

-- the list from a place on begins with the reading there
pub next_is : (rs : List Reading) (i : ℕ) (r : Reading) → i < length rs → r ≡ get_or rs i r → drop i rs ≡ r ∷ drop (i + 1) rs
next_is rs i r l e =
    let more : suc i ≡ i + 1 = omega arith in
    drop-cons rs i r l ∙ ap (λ (x : Reading). x ∷ drop (suc i) rs) (sym e) ∙ ap (λ j. r ∷ drop j rs) more

-- a reading of an instant of none is one more
one_put : (r : Reading) (rs : List Reading) (o : Option Reading) → IsRising rs → at_instant r.at rs ≡ o
    → length (put r rs) ≡ length rs + cond (is_none o) 1 0
one_put r rs None h e =
    let w : rs ≡ before_instant r.at rs ++ after_instant r.at rs = whole instant_of r.at rs h ∙ rw e refl in
    omega (arith, ap length w, length-append (before_instant r.at rs) (after_instant r.at rs), length-append (before_instant r.at rs) (r ∷ after_instant r.at rs))
one_put r rs (Some s) h e =
    let w : rs ≡ before_instant r.at rs ++ s ∷ after_instant r.at rs = whole instant_of r.at rs h ∙ rw e refl in
    omega (arith, ap length w, length-append (before_instant r.at rs) (s ∷ after_instant r.at rs), length-append (before_instant r.at rs) (r ∷ after_instant r.at rs))

-- how many of a list are new
abbrev pub is_new : List Reading → Reading → Bool
is_new rs r = is_none (at_instant r.at rs)

agree_step : (b c : Bool) (l : Reading) (xs ys : List Reading) → b ≡ c → length xs ≡ length ys → length (cond b (l ∷ xs) xs) ≡ length (cond c (l ∷ ys) ys)
agree_step true true l xs ys e f = ap suc f
agree_step true false l xs ys e f = absurd (cc)
agree_step false true l xs ys e f = absurd (cc)
agree_step false false l xs ys e f = f

agree_new : (p q : Reading → Bool) (ls : List Reading) → All (λ r. p r ≡ q r) ls → length (filter p ls) ≡ length (filter q ls)
agree_new p q [] h = refl
agree_new p q (l ∷ ls) h =
    let e = All-head (λ r. p r ≡ q r) l ls h in
    let f = agree_new p q ls (All-tail (λ r. p r ≡ q r) l ls h) in
    agree_step (p l) (q l) l (filter p ls) (filter q ls) e f

count_step : (b : Bool) (l : Reading) (n m o u : ℕ) (xs : List Reading) → m ≡ n + cond b 1 0 → o ≡ m + u → u ≡ length xs → o ≡ n + length (cond b (l ∷ xs) xs)
count_step true l n m o u xs e f g = omega (arith, e, f, g)
count_step false l n m o u xs e f g = omega (arith, e, f, g)

pub put_all_counts : (ls rs : List Reading) → IsRising ls → IsRising rs → length (put_all ls rs) ≡ length rs + length (filter (is_new rs) ls)
put_all_counts [] rs h k = omega arith
put_all_counts (l ∷ ls) rs h k =
    let rest = put_all_counts ls (put l rs) (rest_rises instant_of l ls h) (put_rises instant_of l rs k) in
    let same : length (filter (is_new (put l rs)) ls) ≡ length (filter (is_new rs) ls) =
    agree_new (is_new (put l rs)) (is_new rs) ls
    (All-weaker (IsAfter instant_of l.at) (λ r. is_new (put l rs) r ≡ is_new rs r)
    (λ r m. ap is_none (at_put_other instant_of l r.at rs (λ e. absurd (omega (arith, ints, m, e))))) ls (rest_is_later instant_of l ls h)) in
    count_step (is_new rs l) l (length rs) (length (put l rs)) (length (put_all ls (put l rs))) (length (filter (is_new (put l rs)) ls)) (filter (is_new rs) ls)
    (one_put l rs (at_instant l.at rs) k refl) rest same

-- the place behind a reading that was put is no later than that of the next of a rising list
pub passed_next : (list rs : List Reading) (i n : ℕ) (r d : Reading) → IsRising list → i < length list → r ≡ get_or list i r → i + 1 < length list
    → n ≡ length (before_instant r.at rs) + 1 → n ≤ length (before_instant (get_or list (i + 1) d).at (put r rs))
passed_next list rs i n r d h l e m f =
    let same : (get_or list i d).at ≡ r.at = ap (λ (x : Reading). x.at) (get_or_default list i d r l ∙ sym e) in
    let later : (get_or list i d).at <ℤ (get_or list (i + 1) d).at = h i (i + 1) d (omega arith) m in
    let next = next_place r (get_or list (i + 1) d) rs (omega (arith, ints, same, later)) in
    omega (arith, f, next)

-- a list without its first
count_both : (b : Bool) (r : Reading) (xs : List Reading) (n o u : ℕ) → o ≡ n + length (cond b (r ∷ xs) xs) → u ≡ n + length xs → o ≡ u + cond b 1 0
count_both true r xs n o u e f = omega (arith, e, f)
count_both false r xs n o u e f = omega (arith, e, f)

pub one_more : (r : Reading) (ls rs : List Reading) → IsRising (r ∷ ls) → IsRising rs
    → length (put_all (r ∷ ls) rs) ≡ length (put_all ls rs) + cond (is_new rs r) 1 0
one_more r ls rs h k =
    count_both (is_new rs r) r (filter (is_new rs) ls) (length rs) (length (put_all (r ∷ ls) rs)) (length (put_all ls rs))
    (put_all_counts (r ∷ ls) rs h k) (put_all_counts ls rs (rest_rises instant_of r ls h) k)

All-both : {P Q S : Reading → Type 0} (ls : List Reading) → All P ls → All Q ls → ((s : Reading) → P s → Q s → S s) → All S ls
All-both ls h k f = λ i d l. f (get_or ls i d) (h i d l) (k i d l)

pub rest_found : (r : Reading) (ls xs ys rs : List Reading) → IsRising (r ∷ ls) → ys ≡ from_instant r.at xs
    → All (λ s. at_instant s.at xs ≡ at_instant s.at rs) (r ∷ ls) → All (λ s. at_instant s.at ys ≡ at_instant s.at rs) ls
rest_found r ls xs ys rs h e k =
    All-both {P = IsAfter instant_of r.at} {Q = λ s. at_instant s.at xs ≡ at_instant s.at rs} {S = λ s. at_instant s.at ys ≡ at_instant s.at rs}
    ls (rest_is_later instant_of r ls h) (All-tail (λ s. at_instant s.at xs ≡ at_instant s.at rs) r ls k)
    (λ s l f. ap (at_instant s.at) e ∙ at_filter instant_of s.at (λ x. int_le r.at x.at)
    (λ x g. le_yes r.at x.at (let at : x.at ≡ s.at = (Decides-int_eq x.at s.at).0 g in omega (arith, ints, l, at))) xs ∙ f)

pub all_within : (at : ℤ) (rs : List Reading) → length (before_instant at rs) ≤ length rs
all_within at rs = fewer (λ r. int_lt r.at at) rs

pub drop_rises : (i : ℕ) (rs : List Reading) → IsRising rs → IsRising (drop i rs)
drop_rises i rs h = AllPairs-back (λ r s. r.at <ℤ s.at) (take i rs) (drop i rs) (subst IsRising (sym (take-append-drop i rs)) h)

pub none_told : (o : Option Reading) (b : Bool) → b ≡ is_some o → is_none o ≡ not b
none_told None b e = ap not (sym e)
none_told (Some r) b e = ap not (sym e)

-- what stands at an instant stands among those from it on
pub found_behind : (n : ℤ) (xs ys : List Reading) → ys ≡ from_instant n xs → at_instant n ys ≡ at_instant n xs
found_behind n xs ys e =
    ap (at_instant n) e
    ∙ at_filter instant_of n (λ x. int_le n x.at) (λ x f. le_yes n x.at (let at : x.at ≡ n = (Decides-int_eq x.at n).0 f in omega (arith, ints, at))) xs

pub put_all_rises : (ls rs : List Reading) → IsRising rs → IsRising (put_all ls rs)
put_all_rises [] rs h = h
put_all_rises (l ∷ ls) rs h = put_all_rises ls (put l rs) (put_rises instant_of l rs h)

-- at an instant stands the one that was put there, else the one that stood there
found_step : (n : ℤ) (l : Reading) (ls rs : List Reading) (b : Bool) → int_eq l.at n ≡ b → All (IsAfter instant_of l.at) ls
    → at_instant n (put_all ls (put l rs)) ≡ option_or (at_instant n ls) (at_instant n (put l rs))
    → at_instant n (put_all (l ∷ ls) rs) ≡ option_or (cond b (Some l) (at_instant n ls)) (at_instant n rs)
found_step n l ls rs true e h f =
    let at : l.at ≡ n = (Decides-int_eq l.at n).0 e in
    let none : at_instant n ls ≡ None = none_stands instant_of n ls (subst (λ (m : ℤ). All (IsAfter instant_of m) ls) at h) in
    let here : at_instant n (put l rs) ≡ Some l = ap (λ (m : ℤ). at_instant m (put l rs)) (sym at) ∙ at_put instant_of l rs in
    f ∙ rw (none, here) refl
found_step n l ls rs false e h f =
    let other : l.at ≢ n = λ at. let k : int_eq l.at n ≡ true = (Decides-int_eq l.at n).1 at in absurd (cc) in
    f ∙ ap (option_or (at_instant n ls)) (at_put_other instant_of l n rs other)

pub put_all_found : (n : ℤ) (ls rs : List Reading) → IsRising ls → at_instant n (put_all ls rs) ≡ option_or (at_instant n ls) (at_instant n rs)
put_all_found n [] rs h = refl
put_all_found n (l ∷ ls) rs h =
    found_step n l ls rs (int_eq l.at n) refl (rest_is_later instant_of l ls h) (put_all_found n ls (put l rs) (rest_rises instant_of l ls h))

-- readings that rise behind all others are put behind them
none_after : (n : ℤ) (rs : List Reading) → All (IsBefore instant_of n) rs → after_instant n rs ≡ []
none_after n [] h = refl
none_after n (r ∷ rs) h =
    let at : r.at <ℤ n = All-head (IsBefore instant_of n) r rs h in
    let no : int_lt n r.at ≡ false = grind (arith, ints) in
    rw no (none_after n rs (All-tail (IsBefore instant_of n) r rs h))

put_behind : (r : Reading) (rs : List Reading) → All (IsBefore instant_of r.at) rs → put r rs ≡ rs ++ r ∷ []
put_behind r rs h = let front = all_before r.at rs h in let back = none_after r.at rs h in rw (front, back) refl

all_earlier : (r : Reading) (rs ls : List Reading) → IsRising (rs ++ r ∷ ls) → All (IsBefore instant_of r.at) rs
all_earlier r rs ls h i d l =
    let less = h i (length rs) d l (omega (arith, length-append rs (r ∷ ls))) in
    rw (get_or_append_left rs (r ∷ ls) d i l, get_or-append_seam rs r ls d) at less

pub put_all_behind : (ls rs : List Reading) → IsRising (rs ++ ls) → put_all ls rs ≡ rs ++ ls
put_all_behind [] rs h = sym (append-nil rs)
put_all_behind (l ∷ ls) rs h =
    let all : (rs ++ l ∷ []) ++ ls ≡ rs ++ l ∷ ls = append_assoc rs (l ∷ []) ls in
    ap (put_all ls) (put_behind l rs (all_earlier l rs ls h)) ∙ put_all_behind ls (rs ++ l ∷ []) (subst IsRising (sym all) h) ∙ all

no_later : (rs : List Reading) (x : Reading) → IsRising rs → last rs ≡ Some x → (i : ℕ) (d : Reading) → i < length rs → (get_or rs i d).at ≤ℤ x.at
no_later rs x h e i d l =
    let here : get_or rs (length rs - 1) d ≡ x = get_or_from_slice_get rs (length rs - 1) x d e in
    elim (cases_lt i (length rs - 1)) [
      | inl m ↦ (let less : (get_or rs i d).at <ℤ (get_or rs (length rs - 1) d).at = h i (length rs - 1) d m (omega arith) in
          let same = ap (λ (r : Reading). r.at) here in omega (arith, ints, less, same))
      | inr m ↦ (let at : i ≡ length rs - 1 = omega arith in
          let same : (get_or rs i d).at ≡ x.at = ap (λ k. (get_or rs k d).at) at ∙ ap (λ (r : Reading). r.at) here in omega (arith, ints, same))
    ]

no_earlier : (rs : List Reading) (y : Reading) → IsRising rs → first rs ≡ Some y → (i : ℕ) (d : Reading) → i < length rs → y.at ≤ℤ (get_or rs i d).at
no_earlier rs y h e i d l =
    let here : get_or rs 0 d ≡ y = get_or_from_slice_get rs 0 y d e in
    elim (cases_lt 0 i) [
      | inl m ↦ (let less : (get_or rs 0 d).at <ℤ (get_or rs i d).at = h 0 i d m l in
          let same = ap (λ (r : Reading). r.at) here in omega (arith, ints, less, same))
      | inr m ↦ (let at : i ≡ 0 = omega arith in
          let same : (get_or rs i d).at ≡ y.at = ap (λ k. (get_or rs k d).at) at ∙ ap (λ (r : Reading). r.at) here in omega (arith, ints, same))
    ]

pub rises_on : (rs ls : List Reading) (x y : Reading) → IsRising rs → IsRising ls → last rs ≡ Some x → first ls ≡ Some y → x.at <ℤ y.at → IsRising (rs ++ ls)
rises_on rs ls x y h k e f less =
    AllPairs-append (λ r s. r.at <ℤ s.at) rs ls h k
    (λ i d l j z m. let a = no_later rs x h e i d l in let b = no_earlier ls y k f j z m in omega (arith, ints, a, b, less))

pub nothing_last : (rs : List Reading) → last rs ≡ None → rs ≡ []
nothing_last [] e = refl
nothing_last (r ∷ rs) e = absurd (none-some (get_or (r ∷ rs) (length (r ∷ rs) - 1) r) (sym e ∙ slice_get-get_or (r ∷ rs) (length (r ∷ rs) - 1) r (omega arith)))
