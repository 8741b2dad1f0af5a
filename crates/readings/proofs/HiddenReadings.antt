-- The first and the last used reading of a rising list, and days that lie before it or behind it.
use Rattle.std.specs.Prelude.{◌≡◌, Bool, true, false, List, [], ◌∷◌, ℤ, ◌<ℤ◌, ◌≤ℤ◌, find, reverse, Option, Some, None, MatchOption, All, cond}
use Rattle.std.specs.Option.{option_or}
use Rattle.std.proofs.Common.{arith, refl, ap, sym, ◌∙◌, subst}
use Rattle.std.proofs.lemmas.Int.{ints}
use Rattle.std.proofs.lemmas.Option.{MatchOption-at_some}
use Rattle.std.proofs.lemmas.List.{reverse-reverse}
use Rattle.std.proofs.lemmas.List.Elements.{All-cons, All-weaker}
use Rattle.std.proofs.lemmas.List.Folds.{find-append}
use Rattle.fixed_units.specs.declared.readings.Reading.{Reading}
use Rattle.readings.specs.Readings.{IsRising, instant_of, is_used}
use Rattle.rising.proofs.Parting.{IsAfter}
use Rattle.rising.proofs.Splitting.{rest_rises, rest_is_later}
use Rattle.rising.proofs.Selecting.{none_found, All-reverse, filter_none}
use Rattle.readings.proofs.Selecting.{reverse-cons, find_kept}
use Rattle.readings.specs.Window.{inner}
use Rattle.readings.proofs.WindowParts.{is_inner, inner_no_before, inner_no_from}

-- in a rising list the first used reading is the earliest
pub first_step : (y : Reading) (ys : List Reading) (b : Bool) → is_used y ≡ b → (s : Reading) → All (IsAfter instant_of y.at) ys
    → cond b (Some y) (find is_used ys) ≡ Some s
    → (find is_used ys ≡ Some s → All (λ r. is_used r ≡ true → s.at ≤ℤ r.at) ys)
    → All (λ r. is_used r ≡ true → s.at ≤ℤ r.at) (y ∷ ys)
first_step y ys true u s h e k =
    let same : y ≡ s = cc in
    subst (λ (z : Reading). All (λ r. is_used r ≡ true → z.at ≤ℤ r.at) (y ∷ ys)) same
    (All-cons (λ r. is_used r ≡ true → y.at ≤ℤ r.at) y ys (λ _. omega (arith, ints))
    (All-weaker (IsAfter instant_of y.at) (λ r. is_used r ≡ true → y.at ≤ℤ r.at) (λ r l _. omega (arith, ints)) ys h))
first_step y ys false u s h e k =
    All-cons (λ r. is_used r ≡ true → s.at ≤ℤ r.at) y ys (λ v. absurd (cc)) (k e)

pub first_earliest : (ys : List Reading) (s : Reading) → IsRising ys → find is_used ys ≡ Some s
    → All (λ r. is_used r ≡ true → s.at ≤ℤ r.at) ys
first_earliest [] s h e = absurd (cc)
first_earliest (y ∷ ys) s h e =
    first_step y ys (is_used y) refl s (rest_is_later instant_of y ys h) e (first_earliest ys s (rest_rises instant_of y ys h))

-- and the last used reading the latest
pub last_step : (x : Reading) (xs : List Reading) (o : Option Reading) → o ≡ find is_used (reverse xs) → (b : Bool) → is_used x ≡ b → (s : Reading)
    → MatchOption o (Unit {0}) (IsAfter instant_of x.at)
    → option_or o (cond b (Some x) None) ≡ Some s
    → (o ≡ Some s → All (λ r. is_used r ≡ true → r.at ≤ℤ s.at) xs)
    → All (λ r. is_used r ≡ true → r.at ≤ℤ s.at) (x ∷ xs)
last_step x xs (Some t) f b u s h e k =
    let same : t ≡ s = cc in
    let later : x.at <ℤ s.at = subst (IsAfter instant_of x.at) same h in
    All-cons (λ r. is_used r ≡ true → r.at ≤ℤ s.at) x xs (λ _. omega (arith, ints)) (k e)
last_step x xs None f true u s h e k =
    let same : x ≡ s = cc in
    let none : All (λ r. is_used r ≡ false) (reverse xs) = none_found is_used (reverse xs) (sym f) in
    let unused : All (λ r. is_used r ≡ false) xs =
    subst (λ (l : List Reading). All (λ r. is_used r ≡ false) l) (reverse-reverse xs) (All-reverse (λ r. is_used r ≡ false) (reverse xs) none) in
    All-cons (λ r. is_used r ≡ true → r.at ≤ℤ s.at) x xs (λ _. let i : x.at ≡ s.at = ap (λ (r : Reading). r.at) same in omega (arith, ints))
    (All-weaker (λ r. is_used r ≡ false) (λ r. is_used r ≡ true → r.at ≤ℤ s.at) (λ r l v. absurd (cc)) xs unused)
last_step x xs None f false u s h e k = absurd (cc)

pub last_latest : (xs : List Reading) (s : Reading) → IsRising xs → find is_used (reverse xs) ≡ Some s
    → All (λ r. is_used r ≡ true → r.at ≤ℤ s.at) xs
last_latest [] s h e = absurd (cc)
last_latest (x ∷ xs) s h e =
    let i = ap (find is_used) (reverse-cons x xs) ∙ find-append is_used (reverse xs) (x ∷ []) in
    last_step x xs (find is_used (reverse xs)) refl (is_used x) refl s
    (find_kept (IsAfter instant_of x.at) is_used (reverse xs) (All-reverse (IsAfter instant_of x.at) xs (rest_is_later instant_of x xs h)))
    (sym i ∙ e) (last_latest xs s (rest_rises instant_of x xs h))

-- a found reading that passes another test shows that this one finds or keeps something
pub not_all_fail : (p : Reading → Bool) (rs : List Reading) (s : Reading) → find is_used rs ≡ Some s → p s ≡ true
    → All (λ r. p r ≡ false) rs → ⊥
not_all_fail p rs s e k h =
    let i : p s ≡ false = MatchOption-at_some (Unit {0}) (λ r. p r ≡ false) s e (find_kept (λ r. p r ≡ false) is_used rs h) in
    cc

-- where nothing that is used follows in the day, or where a reading before it hides this one
pub unused_inner : (a b : ℤ) (rs : List Reading) → All (λ r. is_used r ≡ false) rs → inner a b rs ≡ []
unused_inner a b rs h =
    filter_none (is_inner a b) rs (All-weaker (λ r. is_used r ≡ false) (λ r. is_inner a b r ≡ false) (λ r k. rw k refl) rs h)

pub late_step : (a b at : ℤ) (r : Reading) (u : Bool) → is_used r ≡ u → b ≤ℤ at → (is_used r ≡ true → at ≤ℤ r.at) → is_inner a b r ≡ false
late_step a b at r true e k l = let m = l e in inner_no_from a b r (omega (arith, ints))
late_step a b at r false e k l = rw e refl

pub late_inner : (a b at : ℤ) (rs : List Reading) → b ≤ℤ at → All (λ r. is_used r ≡ true → at ≤ℤ r.at) rs → inner a b rs ≡ []
late_inner a b at rs k h =
    filter_none (is_inner a b) rs
    (All-weaker (λ r. is_used r ≡ true → at ≤ℤ r.at) (λ r. is_inner a b r ≡ false) (λ r l. late_step a b at r (is_used r) refl k l) rs h)

pub early_step : (a b at : ℤ) (r : Reading) (u : Bool) → is_used r ≡ u → at <ℤ a → (is_used r ≡ true → r.at ≤ℤ at) → is_inner a b r ≡ false
early_step a b at r true e k l = let m = l e in inner_no_before a b r (omega (arith, ints))
early_step a b at r false e k l = rw e refl

pub early_inner : (a b at : ℤ) (rs : List Reading) → at <ℤ a → All (λ r. is_used r ≡ true → r.at ≤ℤ at) rs → inner a b rs ≡ []
early_inner a b at rs k h =
    filter_none (is_inner a b) rs
    (All-weaker (λ r. is_used r ≡ true → r.at ≤ℤ at) (λ r. is_inner a b r ≡ false) (λ r l. early_step a b at r (is_used r) refl k l) rs h)

-- what holds of each of the list turned round holds of each
pub from_reversed : (P : Reading → Type 0) (rs : List Reading) → All P (reverse rs) → All P rs
from_reversed P rs h = subst (λ (z : List Reading). All P z) (reverse-reverse rs) (All-reverse P (reverse rs) h)
