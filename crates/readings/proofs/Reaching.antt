-- What a walk from an end of rising readings passes until it comes to one too far.
use Rattle.std.specs.Prelude.{◌≡◌, Bool, true, false, List, [], ◌∷◌, ◌++◌, ℤ, ℕ, ◌-◌, take, drop, length, reverse, int_lt, int_le, All}
use Rattle.std.specs.List.{take_while}
use Rattle.std.proofs.Common.{arith, refl, ap, sym, ◌∙◌, length-append}
use Rattle.std.proofs.lemmas.List.{reverse-append, length-reverse}
use Rattle.std.proofs.lemmas.List.Elements.{All-head, All-tail, All-weaker}
use Rattle.std.proofs.lemmas.List.Sums.{take_while-cons}
use Rattle.fixed_units.specs.declared.readings.Reading.{Reading}
use Rattle.rising.proofs.Parting.{lt_yes, lt_no, le_yes, le_no}
use Rattle.rising.proofs.Placing.{IsBefore, IsFrom, before_is_before, from_is_from}
use Rattle.rising.proofs.Selecting.{All-reverse}
use Rattle.readings.specs.Readings.{IsRising, instant_of, before_instant, from_instant}
use Rattle.readings.proofs.HalvesLemmas.{cut, front_of, back_of}

-- the walk ends where the readings that pass do
pub walked : (p : Reading → Bool) (xs ys : List Reading) → All (λ r. p r ≡ true) xs → All (λ r. p r ≡ false) ys → take_while p (xs ++ ys) ≡ xs
walked p [] [] h k = refl
walked p [] (y ∷ ys) h k =
    let e = All-head (λ r. p r ≡ false) y ys k in
    take_while-cons p y ys ∙ rw e refl
walked p (x ∷ xs) ys h k =
    let e = All-head (λ r. p r ≡ true) x xs h in
    take_while-cons p x (xs ++ ys) ∙ rw e (ap (λ (l : List Reading). x ∷ l) (walked p xs ys (All-tail (λ r. p r ≡ true) x xs h) k))

pub walked_back : (n : ℤ) (rs : List Reading) → IsRising rs → take_while (λ r. int_le n r.at) (reverse rs) ≡ reverse (from_instant n rs)
walked_back n rs h =
    ap (λ (l : List Reading). take_while (λ r. int_le n r.at) (reverse l)) (cut n rs h)
    ∙ ap (take_while (λ r. int_le n r.at)) (reverse-append (before_instant n rs) (from_instant n rs))
    ∙ walked (λ r. int_le n r.at) (reverse (from_instant n rs)) (reverse (before_instant n rs))
    (All-reverse (λ r. int_le n r.at ≡ true) (from_instant n rs)
    (All-weaker (IsFrom instant_of n) (λ r. int_le n r.at ≡ true) (λ r k. le_yes n r.at k) (from_instant n rs) (from_is_from instant_of n rs)))
    (All-reverse (λ r. int_le n r.at ≡ false) (before_instant n rs)
    (All-weaker (IsBefore instant_of n) (λ r. int_le n r.at ≡ false) (λ r k. le_no n r.at k) (before_instant n rs) (before_is_before instant_of n rs)))

pub walked_on : (n : ℤ) (rs : List Reading) → IsRising rs → take_while (λ r. int_lt r.at n) rs ≡ before_instant n rs
walked_on n rs h =
    ap (take_while (λ r. int_lt r.at n)) (cut n rs h)
    ∙ walked (λ r. int_lt r.at n) (before_instant n rs) (from_instant n rs)
    (All-weaker (IsBefore instant_of n) (λ r. int_lt r.at n ≡ true) (λ r k. lt_yes r.at n k) (before_instant n rs) (before_is_before instant_of n rs))
    (All-weaker (IsFrom instant_of n) (λ r. int_lt r.at n ≡ false) (λ r k. lt_no r.at n k) (from_instant n rs) (from_is_from instant_of n rs))

-- how many readings a walk passes tells where it ended
pub tail_is : (n : ℤ) (rs : List Reading) (k : ℕ) → IsRising rs → k ≡ length (take_while (λ r. int_le n r.at) (reverse rs)) → drop (length rs - k) rs ≡ from_instant n rs
tail_is n rs k h e =
    let count : k ≡ length (from_instant n rs) = e ∙ ap length (walked_back n rs h) ∙ length-reverse (from_instant n rs) in
    back_of n rs (length rs - k) h (omega (arith, count, ap length (cut n rs h), length-append (before_instant n rs) (from_instant n rs)))

pub head_is : (n : ℤ) (rs : List Reading) (k : ℕ) → IsRising rs → k ≡ length (take_while (λ r. int_lt r.at n) rs) → take k rs ≡ before_instant n rs
head_is n rs k h e = front_of n rs k h (sym (e ∙ ap length (walked_on n rs h)))
