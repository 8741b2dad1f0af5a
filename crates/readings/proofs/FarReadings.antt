-- Readings that are too far from a day to be its neighbours have no part in its window.
use Rattle.std.specs.Prelude.{◌≡◌, List, [], ◌∷◌, ◌++◌, ℤ, ◌<ℤ◌, ◌≤ℤ◌, ◌-ℤ◌, find, reverse, None, option_to_list, All}
use Rattle.std.specs.Option.{option_or}
use Rattle.std.proofs.Common.{arith, refl, ap, sym, ◌∙◌}
use Rattle.std.proofs.lemmas.Int.{ints}
use Rattle.std.proofs.lemmas.List.{append-nil}
use Rattle.std.proofs.lemmas.List.Elements.{All-cons, All-nil, All-weaker}
use Rattle.fixed_units.specs.declared.readings.Reading.{Reading}
use Rattle.readings.specs.Readings.{IsRising, instant_of, before_instant, after_instant, at_instant, put}
use Rattle.rising.proofs.Parting.{IsAfter, after_is_after}
use Rattle.rising.proofs.Placing.{IsBefore, IsFrom, before_is_before}
use Rattle.rising.proofs.Splitting.{IsAt, IsAbout, whole, about}
use Rattle.rising.proofs.Selecting.{All-reverse}
use Rattle.readings.proofs.Selecting.{find_kept}
use Rattle.readings.specs.Window.{inner, lead, follow, neighbour_before, neighbour_after, window}
use Rattle.readings.proofs.WindowParts.{is_early, is_late, none_inner_before, none_inner_from, none_early, none_late, inner_parts, early_parts, late_parts, far_lead, far_follow, first_leads, first_follows}

-- readings before the day that change no neighbour before it have no part in the window
pub early_apart : (a b gap at : ℤ) (xs ms ys : List Reading) → IsAbout instant_of at xs ms ys → at <ℤ a → a ≤ℤ b
    → neighbour_before a gap (xs ++ (ms ++ ys)) ≡ neighbour_before a gap ys
    → window a b gap (xs ++ (ms ++ ys)) ≡ window a b gap ys
early_apart a b gap at xs ms ys h e o before =
    let front : All (IsBefore instant_of a) xs = All-weaker (IsBefore instant_of at) (IsBefore instant_of a) (λ r k. omega (arith, ints)) xs h.below in
    let middle : All (IsBefore instant_of a) ms = All-weaker (IsAt instant_of at) (IsBefore instant_of a) (λ r k. omega (arith, ints)) ms h.here in
    let within : inner a b (xs ++ (ms ++ ys)) ≡ inner a b ys =
    let i = none_inner_before a b xs front in let j = none_inner_before a b ms middle in inner_parts a b xs ms ys ∙ rw (i, j) refl in
    let late : find (is_late b) (xs ++ (ms ++ ys)) ≡ find (is_late b) ys =
    let i = none_late b xs (All-weaker (IsBefore instant_of a) (IsBefore instant_of b) (λ r k. omega (arith, ints)) xs front) in
    let j = none_late b ms (All-weaker (IsBefore instant_of a) (IsBefore instant_of b) (λ r k. omega (arith, ints)) ms middle) in
    late_parts b xs ms ys ∙ rw (i, j) refl in
    let after : neighbour_after b gap (xs ++ (ms ++ ys)) ≡ neighbour_after b gap ys = ap (follow b gap) late in
    rw (before, within, after) refl

-- and those behind the day that change no neighbour behind it
pub late_apart : (a b gap at : ℤ) (xs ms ys : List Reading) → IsAbout instant_of at xs ms ys → b ≤ℤ at → a ≤ℤ b
    → neighbour_after b gap (xs ++ (ms ++ ys)) ≡ neighbour_after b gap xs
    → window a b gap (xs ++ (ms ++ ys)) ≡ window a b gap xs
late_apart a b gap at xs ms ys h e o after =
    let back : All (IsFrom instant_of b) ys = All-weaker (IsAfter instant_of at) (IsFrom instant_of b) (λ r k. omega (arith, ints)) ys h.above in
    let middle : All (IsFrom instant_of b) ms = All-weaker (IsAt instant_of at) (IsFrom instant_of b) (λ r k. omega (arith, ints)) ms h.here in
    let within : inner a b (xs ++ (ms ++ ys)) ≡ inner a b xs =
    let i = none_inner_from a b ys back in let j = none_inner_from a b ms middle in let k = append-nil (inner a b xs) in
    inner_parts a b xs ms ys ∙ rw (i, j) k in
    let early : find (is_early a) (reverse (xs ++ (ms ++ ys))) ≡ find (is_early a) (reverse xs) =
    let i = none_early a ys (All-weaker (IsFrom instant_of b) (IsFrom instant_of a) (λ r k. omega (arith, ints)) ys back) in
    let j = none_early a ms (All-weaker (IsFrom instant_of b) (IsFrom instant_of a) (λ r k. omega (arith, ints)) ms middle) in
    early_parts a xs ms ys ∙ rw (i, j) refl in
    let before : neighbour_before a gap (xs ++ (ms ++ ys)) ≡ neighbour_before a gap xs = ap (lead a gap) early in
    rw (before, within, after) refl

-- too early to be near: the readings up to an instant have no part in the window
pub early_far : (a b gap at : ℤ) (xs ms ys : List Reading) → IsAbout instant_of at xs ms ys → at <ℤ a → a ≤ℤ b → gap <ℤ (a -ℤ at)
    → window a b gap (xs ++ (ms ++ ys)) ≡ window a b gap ys
early_far a b gap at xs ms ys h e o far =
    let front_far : All (λ r. gap <ℤ (a -ℤ r.at)) xs = All-weaker (IsBefore instant_of at) (λ r. gap <ℤ (a -ℤ r.at)) (λ r k. omega (arith, ints)) xs h.below in
    let middle_far : All (λ r. gap <ℤ (a -ℤ r.at)) ms = All-weaker (IsAt instant_of at) (λ r. gap <ℤ (a -ℤ r.at)) (λ r k. omega (arith, ints)) ms h.here in
    let F = find (is_early a) (reverse ys) in
    let M = find (is_early a) (reverse ms) in
    let X = find (is_early a) (reverse xs) in
    let gone_xs : lead a gap X ≡ None =
    far_lead a gap X (find_kept (λ r. gap <ℤ (a -ℤ r.at)) (is_early a) (reverse xs) (All-reverse (λ r. gap <ℤ (a -ℤ r.at)) xs front_far)) in
    let gone_ms : lead a gap M ≡ None =
    far_lead a gap M (find_kept (λ r. gap <ℤ (a -ℤ r.at)) (is_early a) (reverse ms) (All-reverse (λ r. gap <ℤ (a -ℤ r.at)) ms middle_far)) in
    let before : neighbour_before a gap (xs ++ (ms ++ ys)) ≡ neighbour_before a gap ys =
    ap (lead a gap) (early_parts a xs ms ys) ∙ first_leads a gap (option_or F M) X gone_xs ∙ first_leads a gap F M gone_ms in
    early_apart a b gap at xs ms ys h e o before

-- too late to be near: neither have those from an instant on
pub late_far : (a b gap at : ℤ) (xs ms ys : List Reading) → IsAbout instant_of at xs ms ys → b ≤ℤ at → a ≤ℤ b → gap <ℤ (at -ℤ b)
    → window a b gap (xs ++ (ms ++ ys)) ≡ window a b gap xs
late_far a b gap at xs ms ys h e o far =
    let back_far : All (λ r. gap <ℤ (r.at -ℤ b)) ys = All-weaker (IsAfter instant_of at) (λ r. gap <ℤ (r.at -ℤ b)) (λ r k. omega (arith, ints)) ys h.above in
    let middle_far : All (λ r. gap <ℤ (r.at -ℤ b)) ms = All-weaker (IsAt instant_of at) (λ r. gap <ℤ (r.at -ℤ b)) (λ r k. omega (arith, ints)) ms h.here in
    let X = find (is_late b) xs in
    let M = find (is_late b) ms in
    let F = find (is_late b) ys in
    let gone_ys : follow b gap F ≡ None =
    far_follow b gap F (find_kept (λ r. gap <ℤ (r.at -ℤ b)) (is_late b) ys back_far) in
    let gone_ms : follow b gap M ≡ None =
    far_follow b gap M (find_kept (λ r. gap <ℤ (r.at -ℤ b)) (is_late b) ms middle_far) in
    let after : neighbour_after b gap (xs ++ (ms ++ ys)) ≡ neighbour_after b gap xs =
    ap (follow b gap) (late_parts b xs ms ys)
    ∙ first_follows b gap X (option_or M F) (first_follows b gap M F gone_ys ∙ gone_ms) in
    late_apart a b gap at xs ms ys h e o after

-- a reading put too far away leaves the window
pub about_one : (r : Reading) (rs : List Reading) → IsAbout instant_of r.at (before_instant r.at rs) (r ∷ []) (after_instant r.at rs)
about_one r rs = record {
  below = before_is_before instant_of r.at rs;
  here = All-cons (IsAt instant_of r.at) r [] refl (All-nil (IsAt instant_of r.at));
  above = after_is_after instant_of r.at rs;
}

pub early_far_put : (a b gap : ℤ) (r : Reading) (rs : List Reading) → IsRising rs → a ≤ℤ b → r.at <ℤ a → gap <ℤ (a -ℤ r.at)
    → window a b gap (put r rs) ≡ window a b gap rs
early_far_put a b gap r rs h o e far =
    let xs = before_instant r.at rs in
    let ys = after_instant r.at rs in
    let i : window a b gap (put r rs) ≡ window a b gap ys = early_far a b gap r.at xs (r ∷ []) ys (about_one r rs) e o far in
    let j : window a b gap rs ≡ window a b gap ys =
    ap (window a b gap) (whole instant_of r.at rs h)
    ∙ early_far a b gap r.at xs (option_to_list (at_instant r.at rs)) ys (about instant_of r.at rs) e o far in
    i ∙ sym j

pub late_far_put : (a b gap : ℤ) (r : Reading) (rs : List Reading) → IsRising rs → a ≤ℤ b → b ≤ℤ r.at → gap <ℤ (r.at -ℤ b)
    → window a b gap (put r rs) ≡ window a b gap rs
late_far_put a b gap r rs h o e far =
    let xs = before_instant r.at rs in
    let ys = after_instant r.at rs in
    let i : window a b gap (put r rs) ≡ window a b gap xs = late_far a b gap r.at xs (r ∷ []) ys (about_one r rs) e o far in
    let j : window a b gap rs ≡ window a b gap xs =
    ap (window a b gap) (whole instant_of r.at rs h)
    ∙ late_far a b gap r.at xs (option_to_list (at_instant r.at rs)) ys (about instant_of r.at rs) e o far in
    i ∙ sym j
