-- Rising readings stand from their first to their last, so where both are farther from a day than a gap, each is.
use Rattle.std.specs.Prelude.{◌≡◌, List, [], ◌∷◌, ℤ, ◌<ℤ◌, ◌≤ℤ◌, ◌+ℤ◌, ◌-ℤ◌, Some, All, ◌⊎◌}
use Rattle.std.proofs.Common.{arith, ap, sym, ◌∙◌, inl, inr, get_or}
use Rattle.std.proofs.lemmas.Int.{ints}
use Rattle.std.proofs.lemmas.List.Elements.{All-head, All-cons, All-nil, All-weaker}
use Rattle.fixed_units.specs.declared.readings.Reading.{Reading}
use Rattle.rising.specs.Ends.{first, last}
use Rattle.rising.proofs.Ends.{last-cons}
use Rattle.rising.proofs.Parting.{IsAfter}
use Rattle.rising.proofs.Splitting.{rest_rises, rest_is_later}
use Rattle.readings.specs.Readings.{IsRising, instant_of}
use Rattle.readings.specs.Reach.{IsFar}

pub from_first : (rs : List Reading) (f : Reading) → IsRising rs → first rs ≡ Some f → All (λ r. f.at ≤ℤ r.at) rs
from_first [] f h e = absurd (cc)
from_first (r ∷ rs) f h e =
    let same : r ≡ f = cc in
    let at = ap (λ (s : Reading). s.at) same in
    All-cons (λ s. f.at ≤ℤ s.at) r rs (omega (arith, ints, at))
    (All-weaker (IsAfter instant_of r.at) (λ s. f.at ≤ℤ s.at) (λ s l. omega (arith, ints, at, l)) rs (rest_is_later instant_of r rs h))

pub to_last : (rs : List Reading) (l : Reading) → IsRising rs → last rs ≡ Some l → All (λ r. r.at ≤ℤ l.at) rs
to_last [] l h e = absurd (cc)
to_last (r ∷ []) l h e =
    let same : r ≡ l = cc in
    let at = ap (λ (s : Reading). s.at) same in
    All-cons (λ s. s.at ≤ℤ l.at) r [] (omega (arith, ints, at)) (All-nil (λ s. s.at ≤ℤ l.at))
to_last (r ∷ s ∷ rs) l h e =
    let rest = to_last (s ∷ rs) l (rest_rises instant_of r (s ∷ rs) h) (sym (last-cons r s rs) ∙ e) in
    let next = All-head (IsAfter instant_of r.at) s rs (rest_is_later instant_of r (s ∷ rs) h) in
    let top = All-head (λ t. t.at ≤ℤ l.at) s rs rest in
    All-cons (λ t. t.at ≤ℤ l.at) r (s ∷ rs) (omega (arith, ints, next, top)) rest

-- a day that lies farther from the time between them than a reach of at least the gap
far_one : (a b gap reach : ℤ) (f l r : Reading) → gap ≤ℤ reach → ((b <ℤ (f.at -ℤ reach)) ⊎ ((l.at +ℤ reach) <ℤ a)) → f.at ≤ℤ r.at → r.at ≤ℤ l.at → IsFar a b gap r
far_one a b gap reach f l r g (inl before) low high = inr (omega (arith, ints))
far_one a b gap reach f l r g (inr behind) low high = inl (omega (arith, ints))

pub ends_far : (a b gap reach : ℤ) (rs : List Reading) (f l : Reading) → IsRising rs → first rs ≡ Some f → last rs ≡ Some l → gap ≤ℤ reach
    → ((b <ℤ (f.at -ℤ reach)) ⊎ ((l.at +ℤ reach) <ℤ a)) → All (IsFar a b gap) rs
ends_far a b gap reach rs f l h d e g far = λ i r n.
    far_one a b gap reach f l (get_or rs i r) g far (from_first rs f h d i r n) (to_last rs l h e i r n)
