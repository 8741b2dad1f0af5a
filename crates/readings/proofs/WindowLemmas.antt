-- What holds of each reading holds with one put and of each of a window, and that both rise.
use Rattle.std.specs.Prelude.{◌≡◌, true, false, List, [], ◌∷◌, ◌++◌, ℤ, ◌<ℤ◌, ◌≤ℤ◌, int_lt, int_le, find, reverse, Option, Some, None, option_to_list, MatchOption, All}
use Rattle.std.proofs.Common.{arith}
use Rattle.std.proofs.lemmas.Int.{ints, by_lt_z}
use Rattle.std.proofs.lemmas.List.Elements.{All-head, All-append, All-weaker, All-filter, filter_passes}
use Rattle.std.proofs.lemmas.List.Kept.{AllPairs-filter}
use Rattle.fixed_units.specs.declared.readings.Reading.{Reading}
use Rattle.readings.specs.Readings.{IsRising, instant_of, put, is_used}
use Rattle.rising.proofs.Placing as lists
use Rattle.rising.proofs.Parting.{IsAfter, le_no, yes_lt, yes_le}
use Rattle.rising.proofs.Placing.{IsBefore, IsFrom, before_is_before}
use Rattle.rising.proofs.Selecting.{All-reverse, AllPairs-append}
use Rattle.readings.proofs.Selecting.{find_kept, find_passes}
use Rattle.readings.specs.Window.{is_of_day, inner, neighbour_before, neighbour_after, with_neighbours, window}
use Rattle.readings.proofs.WindowParts.{is_inner, is_early, is_late, both_true, lead_keeps, follow_keeps, option_kept, with_neighbours_keeps}

-- what holds of each reading, and of the one put, holds of each after it
pub put_keeps : (P : Reading → Type 0) (r : Reading) (rs : List Reading) → All P rs → P r → All P (put r rs)
put_keeps P r rs h k = lists.put_keeps instant_of P r rs k h

-- what holds of each reading holds of each of a window
pub window_keeps : (P : Reading → Type 0) (a b gap : ℤ) (rs : List Reading) → All P rs → All P (window a b gap rs)
window_keeps P a b gap rs h =
    with_neighbours_keeps P (neighbour_before a gap rs) (inner a b rs) (neighbour_after b gap rs)
    (lead_keeps P a gap (find (is_early a) (reverse rs)) (find_kept P (is_early a) (reverse rs) (All-reverse P rs h)))
    (All-filter (is_inner a b) P rs h)
    (follow_keeps P b gap (find (is_late b) rs) (find_kept P (is_late b) rs h))

-- a list with a reading put rises
pub put_rises : (r : Reading) (rs : List Reading) → IsRising rs → IsRising (put r rs)
put_rises = lists.put_rises instant_of

-- a window rises
found_weaker : (P Q : Reading → Type 0) (o : Option Reading) → ((r : Reading) → P r → Q r) → MatchOption o (Unit {0}) P → MatchOption o (Unit {0}) Q
found_weaker P Q None f h = tt
found_weaker P Q (Some r) f h = f r h

option_rises : (o : Option Reading) → IsRising (option_to_list o)
option_rises None = λ i j d u v. absurd (omega arith)
option_rises (Some r) = λ i j d u v. absurd (omega arith)

inner_from : (a b : ℤ) (r : Reading) → is_inner a b r ≡ true → a ≤ℤ r.at
inner_from a b r h = let d = both_true (is_used r) (is_of_day a b r) h in by_lt_z r.at a (λ k. let e = le_no a r.at k in let g : false ≡ true = rw e at d in absurd (cc)) (λ k. k)

inner_before : (a b : ℤ) (r : Reading) → is_inner a b r ≡ true → r.at <ℤ b
inner_before a b r h = yes_lt r.at b (both_true (int_le a r.at) (int_lt r.at b) (both_true (is_used r) (is_of_day a b r) h))

with_neighbours_rise : (a b : ℤ) (n : Option Reading) (rs : List Reading) (m : Option Reading) → IsRising rs
    → All (IsFrom instant_of a) rs → All (IsBefore instant_of b) rs → MatchOption n (Unit {0}) (IsBefore instant_of a) → MatchOption m (Unit {0}) (IsFrom instant_of b)
    → IsRising (with_neighbours n rs m)
with_neighbours_rise a b n [] m h k l f g = λ i j d u v. absurd (omega arith)
with_neighbours_rise a b n (r ∷ rs) m h k l f g =
    let from_a = All-head (IsFrom instant_of a) r rs k in
    let to_b = All-head (IsBefore instant_of b) r rs l in
    let a_to_b : a <ℤ b = omega (arith, ints) in
    AllPairs-append (λ r s. r.at <ℤ s.at) (option_to_list n ++ (r ∷ rs)) (option_to_list m)
    (AllPairs-append (λ r s. r.at <ℤ s.at) (option_to_list n) (r ∷ rs) (option_rises n) h
    (option_kept (λ x. All (IsAfter instant_of x.at) (r ∷ rs)) n
    (found_weaker (IsBefore instant_of a) (λ x. All (IsAfter instant_of x.at) (r ∷ rs)) n
    (λ x u. All-weaker (IsFrom instant_of a) (IsAfter instant_of x.at) (λ y v. omega (arith, ints)) (r ∷ rs) k) f)))
    (option_rises m)
    (All-append (λ x. All (IsAfter instant_of x.at) (option_to_list m)) (option_to_list n) (r ∷ rs)
    (option_kept (λ x. All (IsAfter instant_of x.at) (option_to_list m)) n
    (found_weaker (IsBefore instant_of a) (λ x. All (IsAfter instant_of x.at) (option_to_list m)) n
    (λ x u. option_kept (IsAfter instant_of x.at) m (found_weaker (IsFrom instant_of b) (IsAfter instant_of x.at) m (λ y v. omega (arith, ints)) g)) f))
    (All-weaker (IsBefore instant_of b) (λ x. All (IsAfter instant_of x.at) (option_to_list m))
    (λ x u. option_kept (IsAfter instant_of x.at) m (found_weaker (IsFrom instant_of b) (IsAfter instant_of x.at) m (λ y v. omega (arith, ints)) g)) (r ∷ rs) l))

pub window_rises : (a b gap : ℤ) (rs : List Reading) → IsRising rs → IsRising (window a b gap rs)
window_rises a b gap rs h =
    let passes = filter_passes (is_inner a b) rs in
    with_neighbours_rise a b (neighbour_before a gap rs) (inner a b rs) (neighbour_after b gap rs)
    (AllPairs-filter (λ r s. r.at <ℤ s.at) (is_inner a b) rs h)
    (All-weaker (λ r. is_inner a b r ≡ true) (IsFrom instant_of a) (λ r k. inner_from a b r k) (inner a b rs) passes)
    (All-weaker (λ r. is_inner a b r ≡ true) (IsBefore instant_of b) (λ r k. inner_before a b r k) (inner a b rs) passes)
    (lead_keeps (IsBefore instant_of a) a gap (find (is_early a) (reverse rs))
    (found_weaker (λ r. is_early a r ≡ true) (IsBefore instant_of a) (find (is_early a) (reverse rs))
    (λ r k. yes_lt r.at a (both_true (is_used r) (int_lt r.at a) k)) (find_passes (is_early a) (reverse rs))))
    (follow_keeps (IsFrom instant_of b) b gap (find (is_late b) rs)
    (found_weaker (λ r. is_late b r ≡ true) (IsFrom instant_of b) (find (is_late b) rs)
    (λ r k. yes_le b r.at (both_true (is_used r) (int_le b r.at) k)) (find_passes (is_late b) rs)))
