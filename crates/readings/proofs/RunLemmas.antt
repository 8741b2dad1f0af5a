-- Runs of readings that are taken out or flagged one after another.
use Rattle.std.specs.Prelude.{◌≡◌, List, [], ◌∷◌, ◌++◌, ◌+◌, ◌-◌, ◌<◌, ◌≤◌, ℕ, ℤ, suc, Some, take, drop, set, get_or, map, slice_get, length, All, ◌<ℤ◌}
use Rattle.std.proofs.Common.{arith, refl, ap, sym, ◌∙◌, length-append, take_at, drop_at, drop-drop, drop-cons, append_assoc, length-drop}
use Rattle.std.proofs.lemmas.Int.{ints}
use Rattle.std.proofs.lemmas.List.{length-take-le, take_more, get_or-drop, set_at, map-append, length-map}
use Rattle.std.proofs.lemmas.List.Elements.{All-head, All-tail, All-cons, All-nil}
use Rattle.std.proofs.lemmas.List.Kept.{AllPairs-cons}
use Rattle.rising.proofs.Parting.{IsAfter}
use Rattle.rising.proofs.Splitting.{rest_rises, rest_is_later}
use Rattle.gapcol.proofs.Lists.{slice_get-append_right}
use Rattle.fixed_units.specs.declared.readings.Reading.{Reading}
use Rattle.fixed_units.specs.declared.readings.Flag.{Flag}
use Rattle.readings.specs.Readings.{IsRising, instant_of, is_within, flagged_where, with_flag}

-- one more is taken out
pub removed : (rs ks : List Reading) (first k : ℕ) → first ≤ k → k < length rs → ks ≡ take first rs ++ drop k rs
    → take first ks ++ drop (first + 1) ks ≡ take first rs ++ drop (k + 1) rs
removed rs ks first k l m e =
    let front : length (take first rs) ≡ first = length-take-le first rs (omega (arith, l, m)) in
    let a : take first ks ≡ take first rs = ap (take first) e ∙ take_at (take first rs) (drop k rs) first front in
    let b : drop (first + 1) ks ≡ drop (k + 1) rs =
    sym (drop-drop 1 first ks) ∙ ap (λ (x : List Reading). drop 1 (drop first x)) e
    ∙ ap (drop 1) (drop_at (take first rs) (drop k rs) first front) ∙ drop-drop 1 k rs in
    rw (a, b) refl

-- one more is changed
pub changed_run : (f : Reading → Reading) (rs ks : List Reading) (first k : ℕ) (r : Reading) → first ≤ k → k < length rs
    → ks ≡ take first rs ++ (map f (take (k - first) (drop first rs)) ++ drop k rs) → slice_get ks k ≡ Some r
    → set ks k (f r) ≡ take first rs ++ (map f (take (k + 1 - first) (drop first rs)) ++ drop (k + 1) rs)
changed_run f rs ks first k r l m e g =
    let X = take first rs in
    let M = map f (take (k - first) (drop first rs)) in
    let D = drop (k + 1) rs in
    let q = get_or rs k r in
    let more : suc k ≡ k + 1 = omega arith in
    let back : drop k rs ≡ q ∷ D = drop-cons rs k r m ∙ ap (λ j. q ∷ drop j rs) more in
    let front : length (X ++ M) ≡ k =
    omega (
      arith,
      l,
      m,
      length-append X M,
      length-take-le first rs (omega (arith, l, m)),
      length-map (take (k - first) (drop first rs)) f,
      length-take-le (k - first) (drop first rs) (omega (arith, l, m, length-drop first rs)),
    ) in
    let whole : ks ≡ (X ++ M) ++ q ∷ D = e ∙ ap (λ (x : List Reading). X ++ (M ++ x)) back ∙ sym (append_assoc X M (q ∷ D)) in
    let found : Some r ≡ Some q =
    sym g ∙ ap (λ (x : List Reading). slice_get x k) whole ∙ slice_get-append_right (X ++ M) (q ∷ D) k 0 (omega (arith, front)) in
    let same : r ≡ q = cc in
    let next : k + 1 - first ≡ (k - first) + 1 = omega (arith, l) in
    let there : get_or (drop first rs) (k - first) r ≡ q =
    let at : first + (k - first) ≡ k = omega (arith, l) in get_or-drop first rs (k - first) r ∙ ap (λ j. get_or rs j r) at in
    let step : take (k + 1 - first) (drop first rs) ≡ take (k - first) (drop first rs) ++ q ∷ [] =
    ap (λ j. take j (drop first rs)) next ∙ take_more (drop first rs) (k - first) r (omega (arith, l, m, length-drop first rs))
    ∙ ap (λ (x : Reading). take (k - first) (drop first rs) ++ x ∷ []) there in
    let run : map f (take (k + 1 - first) (drop first rs)) ≡ M ++ f q ∷ [] = ap (map f) step ∙ map-append f (take (k - first) (drop first rs)) (q ∷ []) in
    ap (λ (x : List Reading). set x k (f r)) whole ∙ set_at (X ++ M) q D (f r) k front ∙ ap (λ (x : Reading). (X ++ M) ++ f x ∷ D) same
    ∙ append_assoc X M (f q ∷ D) ∙ ap (λ (x : List Reading). X ++ x) (sym (append_assoc M (f q ∷ []) D))
    ∙ ap (λ (x : List Reading). X ++ (x ++ D)) (sym run)

-- a list whose readings keep their instants rises as before
after_changed : (f : Reading → Reading) → ((r : Reading) → (f r).at ≡ r.at) → (r : Reading) (rs : List Reading)
    → All (IsAfter instant_of r.at) rs → All (IsAfter instant_of (f r).at) (map f rs)
after_changed f same r [] h = All-nil (IsAfter instant_of (f r).at)
after_changed f same r (s ∷ rs) h =
    let later = All-head (IsAfter instant_of r.at) s rs h in
    All-cons (IsAfter instant_of (f r).at) (f s) (map f rs) (omega (arith, ints, later, same r, same s)) (after_changed f same r rs (All-tail (IsAfter instant_of r.at) s rs h))

pub changed_rises : (f : Reading → Reading) → ((r : Reading) → (f r).at ≡ r.at) → (rs : List Reading) → IsRising rs → IsRising (map f rs)
changed_rises f same [] h = h
changed_rises f same (r ∷ rs) h =
    AllPairs-cons (λ a b. a.at <ℤ b.at) (f r) (map f rs) (after_changed f same r rs (rest_is_later instant_of r rs h)) (changed_rises f same rs (rest_rises instant_of r rs h))

pub with_flag_rises : (from to : ℤ) (flag : Flag) (rs : List Reading) → IsRising rs → IsRising (with_flag from to flag rs)
with_flag_rises from to flag rs h = changed_rises (λ r. flagged_where (is_within from to r) flag r) (λ r. refl) rs h
