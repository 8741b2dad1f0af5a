-- The window of a day, by the parts of a list.
use Rattle.std.specs.Prelude.{◌≡◌, Bool, true, false, ◌&&◌, List, [], ◌∷◌, ◌++◌, ℤ, ◌<ℤ◌, ◌≤ℤ◌, ◌-ℤ◌, int_lt, int_le, filter, find, reverse, Option, Some, None, option_to_list, MatchOption, All, cond}
use Rattle.std.specs.Option.{option_or}
use Rattle.std.proofs.Common.{arith, refl, ap, sym, ◌∙◌, append_assoc}
use Rattle.std.proofs.lemmas.List.{reverse-append}
use Rattle.std.proofs.lemmas.List.Elements.{All-cons, All-nil, All-append, All-weaker, filter-append, filter_agree}
use Rattle.std.proofs.lemmas.List.Folds.{find-append}
use Rattle.fixed_units.specs.declared.readings.Reading.{Reading}
use Rattle.readings.specs.Readings.{instant_of, before_instant, from_instant, is_used}
use Rattle.rising.proofs.Parting.{lt_no, le_no}
use Rattle.rising.proofs.Placing.{IsBefore, IsFrom}
use Rattle.rising.proofs.Selecting.{All-reverse, none_found, filter_none, filter_both}
use Rattle.readings.proofs.Selecting.{find_both, find_none, none_kept, reverse-filter}
use Rattle.readings.specs.Window.{is_of_day, of_day, inner, near, lead, follow, neighbour_before, neighbour_after, with_neighbours, window, if_some, window_before, window_after}

-- the tests of the window
abbrev pub is_inner : ℤ → ℤ → Reading → Bool
is_inner a b r = is_used r && is_of_day a b r

abbrev pub is_early : ℤ → Reading → Bool
is_early a r = is_used r && int_lt r.at a

abbrev pub is_late : ℤ → Reading → Bool
is_late b r = is_used r && int_le b r.at

-- what a test says
pub early_no : (a : ℤ) (r : Reading) → a ≤ℤ r.at → is_early a r ≡ false
early_no a r h = let e = lt_no r.at a h in grind (arith)

pub late_no : (b : ℤ) (r : Reading) → r.at <ℤ b → is_late b r ≡ false
late_no b r h = let e = le_no b r.at h in grind (arith)

pub inner_no_before : (a b : ℤ) (r : Reading) → r.at <ℤ a → is_inner a b r ≡ false
inner_no_before a b r h = let e = le_no a r.at h in grind (arith)

pub inner_no_from : (a b : ℤ) (r : Reading) → b ≤ℤ r.at → is_inner a b r ≡ false
inner_no_from a b r h = let e = lt_no r.at b h in grind (arith)

pub none_inner_before : (a b : ℤ) (rs : List Reading) → All (IsBefore instant_of a) rs → inner a b rs ≡ []
none_inner_before a b rs h =
    filter_none (is_inner a b) rs (All-weaker (IsBefore instant_of a) (λ r. is_inner a b r ≡ false) (λ r k. inner_no_before a b r k) rs h)

pub none_inner_from : (a b : ℤ) (rs : List Reading) → All (IsFrom instant_of b) rs → inner a b rs ≡ []
none_inner_from a b rs h =
    filter_none (is_inner a b) rs (All-weaker (IsFrom instant_of b) (λ r. is_inner a b r ≡ false) (λ r k. inner_no_from a b r k) rs h)

pub none_early : (a : ℤ) (rs : List Reading) → All (IsFrom instant_of a) rs → find (is_early a) (reverse rs) ≡ None
none_early a rs h =
    find_none (is_early a) (reverse rs)
    (All-reverse (λ r. is_early a r ≡ false) rs (All-weaker (IsFrom instant_of a) (λ r. is_early a r ≡ false) (λ r k. early_no a r k) rs h))

pub none_late : (b : ℤ) (rs : List Reading) → All (IsBefore instant_of b) rs → find (is_late b) rs ≡ None
none_late b rs h =
    find_none (is_late b) rs (All-weaker (IsBefore instant_of b) (λ r. is_late b r ≡ false) (λ r k. late_no b r k) rs h)

-- the parts of a list, and what the window takes of each
pub inner_parts : (a b : ℤ) (xs ms ys : List Reading) → inner a b (xs ++ (ms ++ ys)) ≡ inner a b xs ++ (inner a b ms ++ inner a b ys)
inner_parts a b xs ms ys =
    let e = filter-append (is_inner a b) xs (ms ++ ys) in let f = filter-append (is_inner a b) ms ys in rw (e, f) refl

pub early_parts : (a : ℤ) (xs ms ys : List Reading) → find (is_early a) (reverse (xs ++ (ms ++ ys)))
    ≡ option_or (option_or (find (is_early a) (reverse ys)) (find (is_early a) (reverse ms))) (find (is_early a) (reverse xs))
early_parts a xs ms ys =
    let e = reverse-append xs (ms ++ ys) in
    let f = reverse-append ms ys in
    let g = find-append (is_early a) (reverse ys ++ reverse ms) (reverse xs) in
    let h = find-append (is_early a) (reverse ys) (reverse ms) in
    rw (e, f, g, h) refl

pub late_parts : (b : ℤ) (xs ms ys : List Reading) → find (is_late b) (xs ++ (ms ++ ys))
    ≡ option_or (find (is_late b) xs) (option_or (find (is_late b) ms) (find (is_late b) ys))
late_parts b xs ms ys =
    let e = find-append (is_late b) xs (ms ++ ys) in let f = find-append (is_late b) ms ys in rw (e, f) refl

-- what was found is no neighbour where it is too far
pub far_lead : (a gap : ℤ) (o : Option Reading) → MatchOption o (Unit {0}) (λ r. gap <ℤ (a -ℤ r.at)) → lead a gap o ≡ None
far_lead a gap None h = refl
far_lead a gap (Some r) h = let e = le_no (a -ℤ r.at) gap h in rw e refl

pub far_follow : (b gap : ℤ) (o : Option Reading) → MatchOption o (Unit {0}) (λ r. gap <ℤ (r.at -ℤ b)) → follow b gap o ≡ None
far_follow b gap None h = refl
far_follow b gap (Some r) h = let e = le_no (r.at -ℤ b) gap h in rw e refl

-- what was found first, where the rest would not serve
pub first_leads : (a gap : ℤ) (o p : Option Reading) → lead a gap p ≡ None → lead a gap (option_or o p) ≡ lead a gap o
first_leads a gap None p h = h
first_leads a gap (Some r) p h = refl

pub first_follows : (b gap : ℤ) (o p : Option Reading) → follow b gap p ≡ None → follow b gap (option_or o p) ≡ follow b gap o
first_follows b gap None p h = h
first_follows b gap (Some r) p h = refl

-- what the parts of a rising list give
pub lead_found : (a gap : ℤ) (rs : List Reading) → lead a gap (find is_used (reverse (before_instant a rs))) ≡ neighbour_before a gap rs
lead_found a gap rs =
    ap (lead a gap) (ap (find is_used) (reverse-filter (λ r. int_lt r.at a) rs) ∙ sym (find_both is_used (λ r. int_lt r.at a) (reverse rs)))

pub follow_found : (b gap : ℤ) (rs : List Reading) → follow b gap (find is_used (from_instant b rs)) ≡ neighbour_after b gap rs
follow_found b gap rs = ap (follow b gap) (sym (find_both is_used (λ r. int_le b r.at) rs))

pub swapped : (x y : Bool) → (x && y) ≡ (y && x)
swapped true true = refl
swapped true false = refl
swapped false true = refl
swapped false false = refl

-- the used readings of the day's
pub inner_found : (a b : ℤ) (rs : List Reading) → filter is_used (of_day a b rs) ≡ inner a b rs
inner_found a b rs =
    filter_both (is_of_day a b) is_used rs
    ∙ filter_agree (λ r. is_of_day a b r && is_used r) (is_inner a b) (λ r. swapped (is_of_day a b r) (is_used r)) rs

pub own_used : (a b : ℤ) (rs list day : List Reading) → day ≡ of_day a b list → list ≡ rs → filter is_used day ≡ inner a b rs
own_used a b rs list day e f = ap (filter is_used) (e ∙ ap (of_day a b) f) ∙ inner_found a b rs

-- what holds of each reading holds of each of a window
pub both_true : (x y : Bool) → (x && y) ≡ true → y ≡ true
both_true true y h = h
both_true false y h = absurd (cc)

pub near_keeps : (P : Reading → Type 0) (gap distance : ℤ) (r : Reading) → P r → MatchOption (near gap distance r) (Unit {0}) P
near_keeps P gap distance r h = elim (int_le distance gap) as (λ c. MatchOption (cond c (Some r) None) (Unit {0}) P) [ true ↦ h | false ↦ tt ]

pub lead_keeps : (P : Reading → Type 0) (a gap : ℤ) (o : Option Reading) → MatchOption o (Unit {0}) P
    → MatchOption (lead a gap o) (Unit {0}) P
lead_keeps P a gap None h = tt
lead_keeps P a gap (Some r) h = near_keeps P gap (a -ℤ r.at) r h

pub follow_keeps : (P : Reading → Type 0) (b gap : ℤ) (o : Option Reading) → MatchOption o (Unit {0}) P
    → MatchOption (follow b gap o) (Unit {0}) P
follow_keeps P b gap None h = tt
follow_keeps P b gap (Some r) h = near_keeps P gap (r.at -ℤ b) r h

pub option_kept : (P : Reading → Type 0) (o : Option Reading) → MatchOption o (Unit {0}) P → All P (option_to_list o)
option_kept P None h = All-nil P
option_kept P (Some r) h = All-cons P r [] h (All-nil P)

pub with_neighbours_keeps : (P : Reading → Type 0) (n : Option Reading) (rs : List Reading) (m : Option Reading) → MatchOption n (Unit {0}) P
    → All P rs → MatchOption m (Unit {0}) P → All P (with_neighbours n rs m)
with_neighbours_keeps P n [] m h k l = All-nil P
with_neighbours_keeps P n (r ∷ rs) m h k l =
    All-append P (option_to_list n ++ (r ∷ rs)) (option_to_list m)
    (All-append P (option_to_list n) (r ∷ rs) (option_kept P n h) k) (option_kept P m l)

-- without a reading of its own a day has no window
pub no_inner : (a b gap : ℤ) (rs : List Reading) → inner a b rs ≡ [] → window a b gap rs ≡ []
no_inner a b gap rs h = rw h refl

-- the neighbours count where the day has a used reading of its own, and only there
pub if_used : (rs xs : List Reading) (r : Reading) (n : Option Reading) → Some r ≡ find is_used rs → filter is_used rs ≡ xs → if_some xs n ≡ n
if_used rs [] r n e f = let none : find is_used rs ≡ None = find_none is_used rs (none_kept is_used rs f) in absurd (cc)
if_used rs (x ∷ xs) r n e f = refl

pub if_unused : (rs xs : List Reading) (n : Option Reading) → None ≡ find is_used rs → filter is_used rs ≡ xs → if_some xs n ≡ None
if_unused rs xs n e f = let none : xs ≡ [] = sym f ∙ filter_none is_used rs (none_found is_used rs (sym e)) in rw none refl

-- a window in a row
in_row : (n : Option Reading) (xs : List Reading) (m : Option Reading)
    → option_to_list (if_some xs n) ++ (xs ++ option_to_list (if_some xs m)) ≡ with_neighbours n xs m
in_row n [] m = refl
in_row n (x ∷ xs) m = sym (append_assoc (option_to_list n) (x ∷ xs) (option_to_list m))

pub window_row : (a b gap : ℤ) (rs left right : List Reading) → left ++ right ≡ of_day a b rs
    → option_to_list (window_before a b gap rs) ++ (filter is_used left ++ (filter is_used right ++ option_to_list (window_after a b gap rs))) ≡ window a b gap rs
window_row a b gap rs left right e =
    let m = option_to_list (window_after a b gap rs) in
    let own : filter is_used left ++ filter is_used right ≡ inner a b rs = sym (filter-append is_used left right) ∙ ap (filter is_used) e ∙ inner_found a b rs in
    ap (λ (l : List Reading). option_to_list (window_before a b gap rs) ++ l)
    (sym (append_assoc (filter is_used left) (filter is_used right) m) ∙ ap (λ (l : List Reading). l ++ m) own)
    ∙ in_row (neighbour_before a gap rs) (inner a b rs) (neighbour_after b gap rs)

pub window_joined : (a b gap : ℤ) (rs left right : List Reading) (before after : Option Reading) → before ≡ window_before a b gap rs
    → left ++ right ≡ of_day a b rs → after ≡ window_after a b gap rs
    → option_to_list before ++ (filter is_used (left ++ right) ++ option_to_list after) ≡ window a b gap rs
window_joined a b gap rs left right before after e f g =
    let own : filter is_used (left ++ right) ≡ inner a b rs = ap (filter is_used) f ∙ inner_found a b rs in
    rw (e, own, g) (in_row (neighbour_before a gap rs) (inner a b rs) (neighbour_after b gap rs))

-- a row of used readings with its neighbours
pub row_used : (n m : Option Reading) (left right : List Reading) (r : Reading) → Some r ≡ find is_used (left ++ right)
    → with_neighbours n (filter is_used (left ++ right)) m ≡ option_to_list n ++ (filter is_used left ++ (filter is_used right ++ option_to_list m))
row_used n m left right r e =
    let xs = filter is_used (left ++ right) in
    let own : xs ≡ filter is_used left ++ filter is_used right = filter-append is_used left right in
    sym (in_row n xs m) ∙ rw (if_used (left ++ right) xs r n e refl, if_used (left ++ right) xs r m e refl)
    (ap (λ (l : List Reading). option_to_list n ++ l)
    (ap (λ (l : List Reading). l ++ option_to_list m) own ∙ append_assoc (filter is_used left) (filter is_used right) (option_to_list m)))

pub row_unused : (n m : Option Reading) (left right : List Reading) → None ≡ find is_used (left ++ right)
    → with_neighbours n (filter is_used (left ++ right)) m ≡ []
row_unused n m left right e =
    let none : filter is_used (left ++ right) ≡ [] = filter_none is_used (left ++ right) (none_found is_used (left ++ right) (sym e)) in rw none refl

pub window_items : (a b gap : ℤ) (rs left right : List Reading) (before after : Option Reading) → before ≡ window_before a b gap rs
    → left ++ right ≡ of_day a b rs → after ≡ window_after a b gap rs
    → ((option_to_list before ++ filter is_used left) ++ filter is_used right) ++ option_to_list after ≡ window a b gap rs
window_items a b gap rs left right before after e f g =
    append_assoc (option_to_list before ++ filter is_used left) (filter is_used right) (option_to_list after)
    ∙ append_assoc (option_to_list before) (filter is_used left) (filter is_used right ++ option_to_list after)
    ∙ rw (e, g) (window_row a b gap rs left right f)
