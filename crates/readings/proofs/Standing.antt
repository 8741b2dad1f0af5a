-- What stands at an instant of rising readings, and that this tells the whole list.
use Rattle.std.specs.Prelude.{◌≡◌, ◌≢◌, Bool, true, false, List, [], ◌∷◌, ◌++◌, ℤ, ◌<ℤ◌, filter, option_to_list, All, ◌⊎◌}
use Rattle.std.specs.Ordering.{int_eq}
use Rattle.std.proofs.Common.{arith, refl, ap, sym, ◌∙◌, subst, inl, inr}
use Rattle.std.proofs.lemmas.Int.{ints}
use Rattle.std.proofs.lemmas.List.{append-nil}
use Rattle.std.proofs.lemmas.List.Elements.{All-cons, All-nil, All-weaker, filter-append}
use Rattle.std.proofs.lemmas.Bool.Decides.{Decides-int_eq}
use Rattle.fixed_units.specs.declared.readings.Reading.{Reading}
use Rattle.rising.proofs.Selecting.{filter_all, filter_none}
use Rattle.rising.proofs.Parting.{IsAfter, after_is_after}
use Rattle.rising.proofs.Placing.{before_is_before}
use Rattle.rising.proofs.Splitting.{compared, whole, at_is_at, rest_rises, rest_is_later}
use Rattle.readings.specs.Readings.{IsRising, instant_of, before_instant, after_instant, at_instant}

-- what stands at an instant: in a rising list one reading or none
abbrev pub is_at : ℤ → Reading → Bool
is_at n r = int_eq r.at n

abbrev pub here : ℤ → List Reading → List Reading
here n rs = filter (is_at n) rs

pub at_yes : (n : ℤ) (r : Reading) → r.at ≡ n → is_at n r ≡ true
at_yes n r e = (Decides-int_eq r.at n).1 e

at_no_by : (n : ℤ) (r : Reading) (b : Bool) → is_at n r ≡ b → r.at ≢ n → is_at n r ≡ false
at_no_by n r true e k = absurd (k ((Decides-int_eq r.at n).0 e))
at_no_by n r false e k = e

pub at_no : (n : ℤ) (r : Reading) → r.at ≢ n → is_at n r ≡ false
at_no n r k = at_no_by n r (is_at n r) refl k

pub here_none : (n : ℤ) (rs : List Reading) → All (λ r. r.at ≢ n) rs → here n rs ≡ []
here_none n rs h = filter_none (is_at n) rs (All-weaker (λ r. r.at ≢ n) (λ r. is_at n r ≡ false) (at_no n) rs h)

pub here_all : (n : ℤ) (rs : List Reading) → All (λ r. r.at ≡ n) rs → here n rs ≡ rs
here_all n rs h = filter_all (is_at n) rs (All-weaker (λ r. r.at ≡ n) (λ r. is_at n r ≡ true) (at_yes n) rs h)

pub here_later : (n : ℤ) (rs : List Reading) → All (λ r. n <ℤ r.at) rs → here n rs ≡ []
here_later n rs h = here_none n rs (All-weaker (λ r. n <ℤ r.at) (λ r. r.at ≢ n) (λ r k e. omega (arith, ints)) rs h)

pub here_earlier : (n : ℤ) (rs : List Reading) → All (λ r. r.at <ℤ n) rs → here n rs ≡ []
here_earlier n rs h = here_none n rs (All-weaker (λ r. r.at <ℤ n) (λ r. r.at ≢ n) (λ r k e. omega (arith, ints)) rs h)

pub here_first : (n : ℤ) (r : Reading) (rs : List Reading) → r.at ≡ n → here n (r ∷ rs) ≡ r ∷ here n rs
here_first n r rs e = let k = at_yes n r e in rw k refl

pub here_other : (n : ℤ) (r : Reading) (rs : List Reading) → r.at ≢ n → here n (r ∷ rs) ≡ here n rs
here_other n r rs e = let k = at_no n r e in rw k refl

pub here_one : (r : Reading) (rs : List Reading) → IsRising (r ∷ rs) → here r.at (r ∷ rs) ≡ r ∷ []
here_one r rs h =
    here_first r.at r rs refl ∙ ap (λ (l : List Reading). r ∷ l) (here_later r.at rs (rest_is_later instant_of r rs h))

-- each reading of a rising list stands alone at its instant
pub all_here : (rs : List Reading) → IsRising rs → All (λ r. here r.at rs ≡ r ∷ []) rs
all_here [] h = All-nil (λ r. here r.at [] ≡ r ∷ [])
all_here (s ∷ rs) h =
    All-cons (λ r. here r.at (s ∷ rs) ≡ r ∷ []) s rs (here_one s rs h)
    (λ k d l. let later = rest_is_later instant_of s rs h k d l in
    here_other _ s rs (λ e. omega (arith, ints, later, e)) ∙ all_here rs (rest_rises instant_of s rs h) k d l)

-- the one found there
pub at_here : (n : ℤ) (rs : List Reading) → IsRising rs → option_to_list (at_instant n rs) ≡ here n rs
at_here n rs h =
    let i = here_earlier n (before_instant n rs) (before_is_before instant_of n rs) in
    let j = here_all n (option_to_list (at_instant n rs)) (at_is_at instant_of n rs) in
    let k = here_later n (after_instant n rs) (after_is_after instant_of n rs) in
    let whole_here : here n rs ≡ here n (before_instant n rs) ++ (here n (option_to_list (at_instant n rs)) ++ here n (after_instant n rs)) =
    ap (here n) (whole instant_of n rs h)
    ∙ filter-append (is_at n) (before_instant n rs) (option_to_list (at_instant n rs) ++ after_instant n rs)
    ∙ ap (λ (l : List Reading). here n (before_instant n rs) ++ l) (filter-append (is_at n) (option_to_list (at_instant n rs)) (after_instant n rs)) in
    sym (whole_here ∙ rw (i, j, k) (append-nil (option_to_list (at_instant n rs))))

-- rising lists at whose instants the same stands are one
same_first : (x y : Reading) (xs ys : List Reading) → IsRising (x ∷ xs) → IsRising (y ∷ ys) → x.at ≡ y.at
    → ((n : ℤ) → here n (x ∷ xs) ≡ here n (y ∷ ys)) → x ≡ y
same_first x y xs ys h k e same =
    let i : x ∷ [] ≡ y ∷ [] = sym (here_one x xs h) ∙ same x.at ∙ ap (λ n. here n (y ∷ ys)) e ∙ here_one y ys k in
    cc

same_rest_at : (n : ℤ) (x : Reading) (xs ys : List Reading) → All (IsAfter instant_of x.at) xs → All (IsAfter instant_of x.at) ys
    → here n (x ∷ xs) ≡ here n (x ∷ ys) → (x.at <ℤ n) ⊎ ((x.at ≡ n) ⊎ (n <ℤ x.at)) → here n xs ≡ here n ys
same_rest_at n x xs ys h k same (inl l) =
    sym (here_other n x xs (λ e. omega (arith, ints, l, e))) ∙ same ∙ here_other n x ys (λ e. omega (arith, ints, l, e))
same_rest_at n x xs ys h k same (inr (inl e)) =
    subst (λ (m : ℤ). here m xs ≡ here m ys) e (here_later x.at xs h ∙ sym (here_later x.at ys k))
same_rest_at n x xs ys h k same (inr (inr l)) =
    sym (here_other n x xs (λ e. omega (arith, ints, l, e))) ∙ same ∙ here_other n x ys (λ e. omega (arith, ints, l, e))

not_earlier : (x y : Reading) (xs ys : List Reading) → IsRising (y ∷ ys) → x.at <ℤ y.at → ((n : ℤ) → here n (x ∷ xs) ≡ here n (y ∷ ys)) → ⊥
not_earlier x y xs ys k l same =
    let i : x ∷ here x.at xs ≡ [] =
    sym (here_first x.at x xs refl) ∙ same x.at
    ∙ here_later x.at (y ∷ ys) (All-cons (IsAfter instant_of x.at) y ys l
    (All-weaker (IsAfter instant_of y.at) (IsAfter instant_of x.at) (λ z m. omega (arith, ints, l, m)) ys (rest_is_later instant_of y ys k))) in
    cc

same_tails : (x y : Reading) (xs ys : List Reading) → x ≡ y → IsRising (x ∷ xs) → IsRising (y ∷ ys) → ((n : ℤ) → here n (x ∷ xs) ≡ here n (y ∷ ys))
    → (((n : ℤ) → here n xs ≡ here n ys) → xs ≡ ys) → x ∷ xs ≡ y ∷ ys
same_tails x y xs ys e h k same rest =
    let later : All (IsAfter instant_of x.at) ys =
    subst (λ (z : Reading). All (IsAfter instant_of z.at) ys) (sym e) (rest_is_later instant_of y ys k) in
    let tails : xs ≡ ys =
    rest (λ n. same_rest_at n x xs ys (rest_is_later instant_of x xs h) later
    (same n ∙ ap (λ (z : Reading). here n (z ∷ ys)) (sym e)) (compared x.at n)) in
    cc

same_step : (x y : Reading) (xs ys : List Reading) → IsRising (x ∷ xs) → IsRising (y ∷ ys) → ((n : ℤ) → here n (x ∷ xs) ≡ here n (y ∷ ys))
    → (((n : ℤ) → here n xs ≡ here n ys) → xs ≡ ys) → (x.at <ℤ y.at) ⊎ ((x.at ≡ y.at) ⊎ (y.at <ℤ x.at)) → x ∷ xs ≡ y ∷ ys
same_step x y xs ys h k same rest (inl l) = absurd (not_earlier x y xs ys k l same)
same_step x y xs ys h k same rest (inr (inl e)) = same_tails x y xs ys (same_first x y xs ys h k e same) h k same rest
same_step x y xs ys h k same rest (inr (inr l)) = absurd (not_earlier y x ys xs h l (λ n. sym (same n)))
