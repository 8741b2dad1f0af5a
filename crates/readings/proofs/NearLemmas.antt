-- The window of a day by the readings near it: its neighbours are the ends of the used readings within the gap.
use Rattle.std.specs.Prelude.{◌≡◌, Bool, true, false, ◌&&◌, List, [], ◌∷◌, ◌++◌, ℤ, pos, ◌<ℤ◌, ◌≤ℤ◌, ◌+ℤ◌, ◌-ℤ◌, int_lt, int_le, filter, find, reverse, Option, Some, None, MatchOption, All}
use Rattle.std.specs.Option.{option_or}
use Rattle.std.proofs.Common.{arith, refl, ap, sym, ◌∙◌}
use Rattle.std.proofs.lemmas.Int.{ints}
use Rattle.std.proofs.lemmas.List.{reverse-append}
use Rattle.std.proofs.lemmas.List.Elements.{All-weaker, filter_agree}
use Rattle.std.proofs.lemmas.List.Folds.{find-append}
use Rattle.fixed_units.specs.declared.readings.Reading.{Reading}
use Rattle.rising.proofs.Selecting.{filter_all, filter_none, filter_both, All-reverse}
use Rattle.rising.proofs.Parting.{IsAfter, lt_no, le_yes, le_no, yes_lt}
use Rattle.rising.proofs.Placing.{IsBefore, IsFrom, before_is_before, from_is_from, filter_rises}
use Rattle.rising.proofs.Splitting.{rest_rises, rest_is_later}
use Rattle.readings.specs.Readings.{IsRising, instant_of, before_instant, from_instant, is_used}
use Rattle.readings.specs.Window.{is_of_day, of_day, inner, lead, follow, neighbour_before, neighbour_after}
use Rattle.readings.proofs.Selecting.{find_both, find_kept, reverse-filter}
use Rattle.readings.proofs.WindowParts.{is_inner, far_lead, far_follow, first_leads, first_follows, lead_found, follow_found, inner_found}

-- a rising list is what stands before an instant and what stands from it on
split_step : (n : ℤ) (r : Reading) (rs : List Reading) (b : Bool) → int_lt r.at n ≡ b → All (IsAfter instant_of r.at) rs
    → rs ≡ before_instant n rs ++ from_instant n rs → r ∷ rs ≡ before_instant n (r ∷ rs) ++ from_instant n (r ∷ rs)
split_step n r rs true e h same =
    let l = yes_lt r.at n e in
    let i = le_no n r.at l in
    rw (e, i) (ap (λ (t : List Reading). r ∷ t) same)
split_step n r rs false e h same =
    let l : n ≤ℤ r.at = omega (arith, ints) in
    let i = le_yes n r.at l in
    let none : before_instant n rs ≡ [] =
    filter_none (λ s. int_lt s.at n) rs (All-weaker (IsAfter instant_of r.at) (λ s. int_lt s.at n ≡ false) (λ s k. lt_no s.at n (omega (arith, ints))) rs h) in
    let all : from_instant n rs ≡ rs =
    filter_all (λ s. int_le n s.at) rs (All-weaker (IsAfter instant_of r.at) (λ s. int_le n s.at ≡ true) (λ s k. le_yes n s.at (omega (arith, ints))) rs h) in
    rw (e, i, none, all) refl

pub split_at : (n : ℤ) (rs : List Reading) → IsRising rs → rs ≡ before_instant n rs ++ from_instant n rs
split_at n [] h = refl
split_at n (r ∷ rs) h =
    split_step n r rs (int_lt r.at n) refl (rest_is_later instant_of r rs h) (split_at n rs (rest_rises instant_of r rs h))

-- from an instant on and before another, parted at one between them
early_part : (a n b : ℤ) (r : Reading) → n ≤ℤ b → (is_inner a b r && int_lt r.at n) ≡ is_inner a n r
early_part a n b r l = grind (arith, ints)

late_part : (a n b : ℤ) (r : Reading) → a ≤ℤ n → (is_inner a b r && int_le n r.at) ≡ is_inner n b r
late_part a n b r l = grind (arith, ints)

pub inner_split : (a n b : ℤ) (rs : List Reading) → IsRising rs → a ≤ℤ n → n ≤ℤ b → inner a b rs ≡ inner a n rs ++ inner n b rs
inner_split a n b rs h l m =
    let early : before_instant n (inner a b rs) ≡ inner a n rs =
    filter_both (is_inner a b) (λ r. int_lt r.at n) rs ∙ filter_agree (λ r. is_inner a b r && int_lt r.at n) (is_inner a n) (λ r. early_part a n b r m) rs in
    let late : from_instant n (inner a b rs) ≡ inner n b rs =
    filter_both (is_inner a b) (λ r. int_le n r.at) rs ∙ filter_agree (λ r. is_inner a b r && int_le n r.at) (is_inner n b) (λ r. late_part a n b r l) rs in
    split_at n (inner a b rs) (filter_rises instant_of (is_inner a b) rs h) ∙ rw (early, late) refl

-- the ends of a list
abbrev pub final : List Reading → Option Reading
final rs = find (λ _. true) (reverse rs)

abbrev pub initial : List Reading → Option Reading
initial rs = find (λ _. true) rs

pub final_append : (xs ys : List Reading) → final (xs ++ ys) ≡ option_or (final ys) (final xs)
final_append xs ys =
    ap (find (λ _. true)) (reverse-append xs ys) ∙ find-append (λ _. true) (reverse ys) (reverse xs)

pub initial_append : (xs ys : List Reading) → initial (xs ++ ys) ≡ option_or (initial xs) (initial ys)
initial_append xs ys = find-append (λ _. true) xs ys

pub used_final : (rs : List Reading) → find is_used (reverse rs) ≡ final (filter is_used rs)
used_final rs =
    find_both (λ _. true) is_used (reverse rs) ∙ ap (find (λ _. true)) (sym (reverse-filter is_used rs))

pub used_initial : (rs : List Reading) → find is_used rs ≡ initial (filter is_used rs)
used_initial rs = find_both (λ _. true) is_used rs

-- what the used readings within a gap give
near_all : (a gap : ℤ) (o : Option Reading) → MatchOption o (Unit {0}) (λ r. (a -ℤ gap) ≤ℤ r.at) → lead a gap o ≡ o
near_all a gap None h = refl
near_all a gap (Some r) h = let e = le_yes (a -ℤ r.at) gap (omega (arith, ints)) in rw e refl

soon_all : (b gap : ℤ) (o : Option Reading) → MatchOption o (Unit {0}) (λ r. r.at ≤ℤ (b +ℤ gap)) → follow b gap o ≡ o
soon_all b gap None h = refl
soon_all b gap (Some r) h = let e = le_yes (r.at -ℤ b) gap (omega (arith, ints)) in rw e refl

swap_of_day : (a b : ℤ) (r : Reading) → (int_lt r.at b && int_le a r.at) ≡ is_of_day a b r
swap_of_day a b r = grind (arith, ints)

pub lead_back : (a gap : ℤ) (rs : List Reading) → IsRising rs → neighbour_before a gap rs ≡ find is_used (reverse (from_instant (a -ℤ gap) (before_instant a rs)))
lead_back a gap rs h =
    let n = a -ℤ gap in
    let bs = before_instant a rs in
    let apart : find is_used (reverse bs) ≡ option_or (find is_used (reverse (from_instant n bs))) (find is_used (reverse (before_instant n bs))) =
    ap (λ (l : List Reading). find is_used (reverse l)) (split_at n bs (filter_rises instant_of (λ r. int_lt r.at a) rs h))
    ∙ ap (find is_used) (reverse-append (before_instant n bs) (from_instant n bs))
    ∙ find-append is_used (reverse (from_instant n bs)) (reverse (before_instant n bs)) in
    let far : lead a gap (find is_used (reverse (before_instant n bs))) ≡ None =
    far_lead a gap (find is_used (reverse (before_instant n bs)))
    (find_kept (λ r. gap <ℤ (a -ℤ r.at)) is_used (reverse (before_instant n bs)) (All-reverse (λ r. gap <ℤ (a -ℤ r.at)) (before_instant n bs)
    (All-weaker (IsBefore instant_of n) (λ r. gap <ℤ (a -ℤ r.at)) (λ r k. omega (arith, ints)) (before_instant n bs) (before_is_before instant_of n bs)))) in
    let close : lead a gap (find is_used (reverse (from_instant n bs))) ≡ find is_used (reverse (from_instant n bs)) =
    near_all a gap (find is_used (reverse (from_instant n bs)))
    (find_kept (IsFrom instant_of n) is_used (reverse (from_instant n bs)) (All-reverse (IsFrom instant_of n) (from_instant n bs) (from_is_from instant_of n bs))) in
    sym (lead_found a gap rs) ∙ ap (lead a gap) apart
    ∙ first_leads a gap (find is_used (reverse (from_instant n bs))) (find is_used (reverse (before_instant n bs))) far
    ∙ close

pub from_before : (n a : ℤ) (rs : List Reading) → from_instant n (before_instant a rs) ≡ of_day n a rs
from_before n a rs =
    filter_both (λ r. int_lt r.at a) (λ r. int_le n r.at) rs ∙ filter_agree (λ r. int_lt r.at a && int_le n r.at) (is_of_day n a) (λ r. swap_of_day n a r) rs

pub before_from : (n b : ℤ) (rs : List Reading) → before_instant n (from_instant b rs) ≡ of_day b n rs
before_from n b rs = filter_both (λ r. int_le b r.at) (λ r. int_lt r.at n) rs

both_from : (a b : ℤ) (r : Reading) → a ≤ℤ b → (int_le a r.at && int_le b r.at) ≡ int_le b r.at
both_from a b r l = grind (arith, ints)

pub from_from : (a b : ℤ) (rs : List Reading) → a ≤ℤ b → from_instant b (from_instant a rs) ≡ from_instant b rs
from_from a b rs l =
    filter_both (λ r. int_le a r.at) (λ r. int_le b r.at) rs ∙ filter_agree (λ r. int_le a r.at && int_le b r.at) (λ r. int_le b r.at) (λ r. both_from a b r l) rs

pub lead_near : (a gap : ℤ) (rs : List Reading) → IsRising rs → neighbour_before a gap rs ≡ find is_used (reverse (of_day (a -ℤ gap) a rs))
lead_near a gap rs h =
    lead_back a gap rs h ∙ ap (λ (l : List Reading). find is_used (reverse l)) (from_before (a -ℤ gap) a rs)

pub follow_front : (b gap : ℤ) (rs : List Reading) → IsRising rs → neighbour_after b gap rs ≡ find is_used (before_instant ((b +ℤ gap) +ℤ pos 1) (from_instant b rs))
follow_front b gap rs h =
    let n = (b +ℤ gap) +ℤ pos 1 in
    let fs = from_instant b rs in
    let apart : find is_used fs ≡ option_or (find is_used (before_instant n fs)) (find is_used (from_instant n fs)) =
    ap (find is_used) (split_at n fs (filter_rises instant_of (λ r. int_le b r.at) rs h)) ∙ find-append is_used (before_instant n fs) (from_instant n fs) in
    let far : follow b gap (find is_used (from_instant n fs)) ≡ None =
    far_follow b gap (find is_used (from_instant n fs))
    (find_kept (λ r. gap <ℤ (r.at -ℤ b)) is_used (from_instant n fs)
    (All-weaker (IsFrom instant_of n) (λ r. gap <ℤ (r.at -ℤ b)) (λ r k. omega (arith, ints)) (from_instant n fs) (from_is_from instant_of n fs))) in
    let close : follow b gap (find is_used (before_instant n fs)) ≡ find is_used (before_instant n fs) =
    soon_all b gap (find is_used (before_instant n fs))
    (find_kept (λ r. r.at ≤ℤ (b +ℤ gap)) is_used (before_instant n fs)
    (All-weaker (IsBefore instant_of n) (λ r. r.at ≤ℤ (b +ℤ gap)) (λ r k. omega (arith, ints)) (before_instant n fs) (before_is_before instant_of n fs))) in
    sym (follow_found b gap rs) ∙ ap (follow b gap) apart
    ∙ first_follows b gap (find is_used (before_instant n fs)) (find is_used (from_instant n fs)) far
    ∙ close

pub follow_near : (b gap : ℤ) (rs : List Reading) → IsRising rs → neighbour_after b gap rs ≡ find is_used (of_day b ((b +ℤ gap) +ℤ pos 1) rs)
follow_near b gap rs h =
    follow_front b gap rs h ∙ ap (find is_used) (before_from ((b +ℤ gap) +ℤ pos 1) b rs)

-- the neighbours as the ends of the used readings within the gap
pub lead_inner : (a gap : ℤ) (rs : List Reading) → IsRising rs → neighbour_before a gap rs ≡ final (inner (a -ℤ gap) a rs)
lead_inner a gap rs h =
    lead_near a gap rs h ∙ used_final (of_day (a -ℤ gap) a rs) ∙ ap final (inner_found (a -ℤ gap) a rs)

pub follow_inner : (b gap : ℤ) (rs : List Reading) → IsRising rs → neighbour_after b gap rs ≡ initial (inner b ((b +ℤ gap) +ℤ pos 1) rs)
follow_inner b gap rs h =
    follow_near b gap rs h ∙ used_initial (of_day b ((b +ℤ gap) +ℤ pos 1) rs) ∙ ap initial (inner_found b ((b +ℤ gap) +ℤ pos 1) rs)
