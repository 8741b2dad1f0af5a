-- Readings that are put in bulk: what stands at an instant then, what a part of the list becomes, and when the used readings stay.
use Rattle.std.specs.Prelude.{◌≡◌, ◌≢◌, Bool, true, false, ◌&&◌, List, [], ◌∷◌, ◌++◌, ℤ, ◌<ℤ◌, int_lt, filter, option_to_list, All, ◌⊎◌, cond}
use Rattle.std.proofs.Common.{arith, refl, ap, sym, ◌∙◌, subst, inl, inr}
use Rattle.std.proofs.lemmas.Int.{ints}
use Rattle.std.proofs.lemmas.List.Elements.{All-head, All-tail, All-weaker, filter-append, filter_agree}
use Rattle.fixed_units.specs.declared.readings.Reading.{Reading}
use Rattle.rising.proofs.Selecting.{filter_none, filter_both}
use Rattle.rising.proofs.Parting.{after_is_after}
use Rattle.rising.proofs.Placing.{before_is_before, at_put_other}
use Rattle.rising.proofs.Splitting.{compared, whole, at_is_at, rest_rises, rest_is_later}
use Rattle.readings.specs.Readings.{IsRising, instant_of, before_instant, after_instant, at_instant, put, put_all, is_used}
use Rattle.readings.proofs.WindowLemmas.{put_rises}
use Rattle.readings.proofs.WindowParts.{swapped}
use Rattle.readings.proofs.Standing.{is_at, here, here_later, here_earlier, here_first, here_other, here_one, all_here, at_here, at_no}

-- two filters in either order
pub filters_swap : (p q : Reading → Bool) (rs : List Reading) → filter p (filter q rs) ≡ filter q (filter p rs)
filters_swap p q rs =
    filter_both q p rs ∙ filter_agree (λ r. q r && p r) (λ r. p r && q r) (λ r. swapped (q r) (p r)) rs ∙ sym (filter_both p q rs)

-- the parts that a put leaves, and the one that it replaces
pub parts_kept : (p : Reading → Bool) (n : ℤ) (rs : List Reading) → IsRising rs
    → filter p rs ≡ filter p (before_instant n rs) ++ (filter p (option_to_list (at_instant n rs)) ++ filter p (after_instant n rs))
parts_kept p n rs h =
    ap (filter p) (whole instant_of n rs h)
    ∙ filter-append p (before_instant n rs) (option_to_list (at_instant n rs) ++ after_instant n rs)
    ∙ ap (λ (l : List Reading). filter p (before_instant n rs) ++ l) (filter-append p (option_to_list (at_instant n rs)) (after_instant n rs))

pub parts_put : (p : Reading → Bool) (r : Reading) (rs : List Reading)
    → filter p (put r rs) ≡ filter p (before_instant r.at rs) ++ (filter p (r ∷ []) ++ filter p (after_instant r.at rs))
parts_put p r rs =
    filter-append p (before_instant r.at rs) (r ∷ after_instant r.at rs)
    ∙ ap (λ (l : List Reading). filter p (before_instant r.at rs) ++ l) (filter-append p (r ∷ []) (after_instant r.at rs))

-- a test that keeps as much of the one put as of what stood there keeps the same
pub put_alike : (p : Reading → Bool) (r : Reading) (rs : List Reading) → IsRising rs
    → filter p (option_to_list (at_instant r.at rs)) ≡ filter p (r ∷ []) → filter p (put r rs) ≡ filter p rs
put_alike p r rs h e =
    parts_put p r rs
    ∙ ap (λ (l : List Reading). filter p (before_instant r.at rs) ++ (l ++ filter p (after_instant r.at rs))) (sym e)
    ∙ sym (parts_kept p r.at rs h)

-- one that keeps nothing there leaves the put out
pub put_out : (p : Reading → Bool) (r : Reading) (rs : List Reading) → IsRising rs → ((s : Reading) → s.at ≡ r.at → p s ≡ false)
    → filter p (put r rs) ≡ filter p rs
put_out p r rs h none =
    put_alike p r rs h
    (filter_none p (option_to_list (at_instant r.at rs))
    (All-weaker (λ s. s.at ≡ r.at) (λ s. p s ≡ false) none (option_to_list (at_instant r.at rs)) (at_is_at instant_of r.at rs))
    ∙ sym (let e = none r refl in rw e refl))

-- one that keeps the reading puts it among those that it keeps
pub put_in : (p : Reading → Bool) (r : Reading) (rs : List Reading) → p r ≡ true → filter p (put r rs) ≡ put r (filter p rs)
put_in p r rs e =
    let one : filter p (r ∷ []) ≡ r ∷ [] = rw e refl in
    let early = filters_swap p (λ s. int_lt s.at r.at) rs in
    let late = filters_swap p (λ s. int_lt r.at s.at) rs in
    parts_put p r rs ∙ rw (one, early, late) refl

-- what stands at an instant then: the one of the list, else what stood there
abbrev pub instead : List Reading → List Reading → List Reading
instead [] ss = ss
instead (r ∷ rs) ss = r ∷ rs

here_put_other : (n : ℤ) (r : Reading) (list rs : List Reading) → IsRising rs → r.at ≢ n
    → here n (put_all list (put r rs)) ≡ instead (here n list) (here n (put r rs))
    → here n (put_all list (put r rs)) ≡ instead (here n (r ∷ list)) (here n rs)
here_put_other n r list rs k e same =
    let i : here n (put r rs) ≡ here n rs = put_out (is_at n) r rs k (λ s f. at_no n s (λ g. e (sym f ∙ g))) in
    let j : here n (r ∷ list) ≡ here n list = here_other n r list e in
    same ∙ ap (instead (here n list)) i ∙ ap (λ (l : List Reading). instead l (here n rs)) (sym j)

pub here_put : (r : Reading) (rs : List Reading) → here r.at (put r rs) ≡ r ∷ []
here_put r rs =
    let i = here_earlier r.at (before_instant r.at rs) (before_is_before instant_of r.at rs) in
    let j : here r.at (r ∷ []) ≡ r ∷ [] = here_first r.at r [] refl in
    let k = here_later r.at (after_instant r.at rs) (after_is_after instant_of r.at rs) in
    parts_put (is_at r.at) r rs ∙ rw (i, j, k) refl

here_put_same : (r : Reading) (list rs : List Reading) → IsRising (r ∷ list)
    → here r.at (put_all list (put r rs)) ≡ instead (here r.at list) (here r.at (put r rs))
    → here r.at (put_all list (put r rs)) ≡ instead (here r.at (r ∷ list)) (here r.at rs)
here_put_same r list rs h same =
    let i = here_later r.at list (rest_is_later instant_of r list h) in
    let j = here_put r rs in
    let k = here_one r list h in
    same ∙ ap (λ (l : List Reading). instead l (here r.at (put r rs))) i ∙ j ∙ ap (λ (l : List Reading). instead l (here r.at rs)) (sym k)

here_put_step : (n : ℤ) (r : Reading) (list rs : List Reading) → IsRising (r ∷ list) → IsRising rs
    → here n (put_all list (put r rs)) ≡ instead (here n list) (here n (put r rs)) → (r.at <ℤ n) ⊎ ((r.at ≡ n) ⊎ (n <ℤ r.at))
    → here n (put_all list (put r rs)) ≡ instead (here n (r ∷ list)) (here n rs)
here_put_step n r list rs h k same (inl l) = here_put_other n r list rs k (λ e. omega (arith, ints, l, e)) same
here_put_step n r list rs h k same (inr (inr l)) = here_put_other n r list rs k (λ e. omega (arith, ints, l, e)) same
here_put_step n r list rs h k same (inr (inl e)) =
    subst (λ (m : ℤ). here m (put_all list (put r rs)) ≡ instead (here m list) (here m (put r rs)) → here m (put_all list (put r rs)) ≡ instead (here m (r ∷ list)) (here m rs))
    e (here_put_same r list rs h) same

pub here_put_all : (n : ℤ) (list rs : List Reading) → IsRising list → IsRising rs → here n (put_all list rs) ≡ instead (here n list) (here n rs)
here_put_all n [] rs h k = refl
here_put_all n (r ∷ list) rs h k =
    here_put_step n r list rs h k (here_put_all n list (put r rs) (rest_rises instant_of r list h) (put_rises r rs k)) (compared r.at n)

-- of the readings at some instants: those of the list at such instants put among them
put_step : (passes : ℤ → Bool) (r : Reading) (list rs : List Reading) (c : Bool) → passes r.at ≡ c → IsRising rs
    → filter (λ s. passes s.at) (put_all list (put r rs)) ≡ put_all (filter (λ s. passes s.at) list) (filter (λ s. passes s.at) (put r rs))
    → filter (λ s. passes s.at) (put_all list (put r rs))
    ≡ put_all (cond c (r ∷ filter (λ s. passes s.at) list) (filter (λ s. passes s.at) list)) (filter (λ s. passes s.at) rs)
put_step passes r list rs true d h same = same ∙ ap (put_all (filter (λ s. passes s.at) list)) (put_in (λ s. passes s.at) r rs d)
put_step passes r list rs false d h same =
    same ∙ ap (put_all (filter (λ s. passes s.at) list)) (put_out (λ s. passes s.at) r rs h (λ s e. ap passes e ∙ d))

pub part_put_all : (passes : ℤ → Bool) (list rs : List Reading) → IsRising rs
    → filter (λ r. passes r.at) (put_all list rs) ≡ put_all (filter (λ r. passes r.at) list) (filter (λ r. passes r.at) rs)
part_put_all passes [] rs h = refl
part_put_all passes (r ∷ list) rs h =
    put_step passes r list rs (passes r.at) refl h (part_put_all passes list (put r rs) (put_rises r rs h))

-- a reading is used as the one at its instant is: both are not, or they are one
abbrev pub IsUsedAlike : List Reading → Reading → Type 0
IsUsedAlike rs r = filter is_used (option_to_list (at_instant r.at rs)) ≡ filter is_used (r ∷ [])

-- a put elsewhere leaves what is found
alike_still : (r s : Reading) (rs : List Reading) → r.at <ℤ s.at → IsUsedAlike rs s → IsUsedAlike (put r rs) s
alike_still r s rs l e = let i = at_put_other instant_of r s.at rs (λ f. omega (arith, ints, l, f)) in rw i e

-- where each of the list is used as what stands there is, the used readings stay
pub used_stay : (list rs : List Reading) → IsRising list → IsRising rs → All (IsUsedAlike rs) list
    → filter is_used (put_all list rs) ≡ filter is_used rs
used_stay [] rs h k e = refl
used_stay (r ∷ list) rs h k e =
    let later = rest_is_later instant_of r list h in
    let rest = All-tail (IsUsedAlike rs) r list e in
    used_stay list (put r rs) (rest_rises instant_of r list h) (put_rises r rs k)
    (λ i d l. alike_still r _ rs (later i d l) (rest i d l))
    ∙ put_alike is_used r rs k (All-head (IsUsedAlike rs) r list e)

-- and where they stay, each is
pub used_stayed : (list rs : List Reading) → IsRising list → IsRising rs → filter is_used (put_all list rs) ≡ filter is_used rs
    → All (IsUsedAlike rs) list
used_stayed list rs h k e =
    All-weaker (λ r. here r.at list ≡ r ∷ []) (IsUsedAlike rs)
    (λ r alone.
    let now : here r.at (put_all list rs) ≡ r ∷ [] = here_put_all r.at list rs h k ∙ ap (λ (l : List Reading). instead l (here r.at rs)) alone in
    ap (filter is_used) (at_here r.at rs k)
    ∙ filters_swap is_used (is_at r.at) rs
    ∙ ap (here r.at) (sym e)
    ∙ filters_swap (is_at r.at) is_used (put_all list rs)
    ∙ ap (filter is_used) now)
    list (all_here list h)
