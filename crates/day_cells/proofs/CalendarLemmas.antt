-- The days of the calendar that pass a test: the first of them, and how many they are.
use Rattle.std.specs.Prelude.{◌≡◌, ℕ, zero, suc, ◌+◌, Bool, true, false, cond, List, [], ◌∷◌, length, map, filter, find, count_by, slice_get, Some, None, nat_lt, ℤ, pos, ◌+ℤ◌, ◌<ℤ◌, ◌≤ℤ◌}
use Rattle.std.proofs.Common.{arith, refl, ap, sym, ◌∙◌}
use Rattle.std.proofs.lemmas.Int.{ints, by_lt_z}
use Rattle.std.proofs.lemmas.List.Sums.{sum_by-cons}
use Rattle.fixed_units.specs.Calendar.{days_from}
use Rattle.fixed_units.proofs.CalendarLemmas.{filter_days_same}
use Rattle.day_cells.specs.Days.{on_day}
use Rattle.day_cells.specs.KeptDays.{is_edit}
use Rattle.day_cells.proofs.DayLemmas.{by_day, on_day_at, on_day_before}

-- how many days of a column await an edit
has_edit : ℤ → List ℕ → ℤ → Bool
has_edit start xs day = nat_lt 0 (on_day start xs 0 day)

count_step : (b : Bool) (day : ℤ) (days : List ℤ) (n : ℕ) → length days ≡ n → length (cond b (day ∷ days) days) ≡ cond b 1 0 + n
count_step true day days n e = omega (arith, e)
count_step false day days n e = omega (arith, e)

none_before : (start : ℤ) (xs : List ℕ) (day : ℤ) → day <ℤ start → has_edit start xs day ≡ false
unfolding has_edit
none_before start xs day h = rw (on_day_before start xs 0 day h) refl

first_here : (start : ℤ) (x : ℕ) (xs : List ℕ) → has_edit start (x ∷ xs) start ≡ is_edit x
unfolding has_edit
first_here start x xs = ap is_edit (on_day_at start (x ∷ xs) 0 start 0 (omega (arith, ints)))

rest_there : (start : ℤ) (x : ℕ) (xs : List ℕ) (day : ℤ) → (start +ℤ pos 1) ≤ℤ day → has_edit start (x ∷ xs) day ≡ has_edit (start +ℤ pos 1) xs day
unfolding has_edit
rest_there start x xs day h =
    ap is_edit (by_day (start +ℤ pos 1) day (λ l. absurd (omega (arith, ints)))
    (λ k e. on_day_at start (x ∷ xs) 0 day (suc k) (omega (arith, ints)) ∙ sym (on_day_at (start +ℤ pos 1) xs 0 day k e)))

none_of_none : (start : ℤ) (day : ℤ) → has_edit start [] day ≡ false
unfolding has_edit
none_of_none start day =
    ap is_edit (by_day start day (λ l. on_day_before start [] 0 day l) (λ k e. on_day_at start [] 0 day k e))

count_none : (start day : ℤ) (n : ℕ) → length (filter (has_edit start []) (days_from day n)) ≡ 0
unfolding days_from
count_none start day zero = refl
count_none start day (suc n) = rw (none_of_none start day) (count_none start (day +ℤ pos 1) n)

count_from : (day : ℤ) (n : ℕ) (start : ℤ) (xs : List ℕ) → day ≤ℤ start → (start +ℤ pos (length xs)) ≤ℤ (day +ℤ pos n)
    → length (filter (has_edit start xs) (days_from day n)) ≡ count_by is_edit xs
unfolding days_from
count_from day n start [] low high = count_none start day n
count_from day zero start (x ∷ xs) low high = absurd (omega (arith, ints))
count_from day (suc n) start (x ∷ xs) low high =
    let days = days_from (day +ℤ pos 1) n in
    by_lt_z day start
    (λ l. rw (none_before start (x ∷ xs) day l) (count_from (day +ℤ pos 1) n start (x ∷ xs) (omega (arith, ints)) (omega (arith, ints))))
    (λ l. let same : day ≡ start = omega (arith, ints) in
    let here : has_edit start (x ∷ xs) day ≡ is_edit x = ap (has_edit start (x ∷ xs)) same ∙ first_here start x xs in
    let rest : filter (has_edit start (x ∷ xs)) days ≡ filter (has_edit (start +ℤ pos 1) xs) days =
    filter_days_same (has_edit start (x ∷ xs)) (has_edit (start +ℤ pos 1) xs) (day +ℤ pos 1) n (λ d k. rest_there start x xs d (omega (arith, ints))) in
    let more = count_from (day +ℤ pos 1) n (start +ℤ pos 1) xs (omega (arith, ints)) (omega (arith, ints)) in
    rw (here, rest) (count_step (is_edit x) day (filter (has_edit (start +ℤ pos 1) xs) days) (count_by is_edit xs) more
    ∙ sym (sum_by-cons (λ k. cond (is_edit k) 1 0) x xs)))

pub count_of_column : (day : ℤ) (n : ℕ) (start : ℤ) (xs : List ℕ) → day ≤ℤ start → (start +ℤ pos (length xs)) ≤ℤ (day +ℤ pos n)
    → length (filter (λ d. nat_lt 0 (on_day start xs 0 d)) (days_from day n)) ≡ count_by is_edit xs
unfolding has_edit
count_of_column day n start xs low high = count_from day n start xs low high

-- the first day that passes both tests
pub found_first : {X : Type 0} (q : X → Bool) (f : ℤ → X) (p : ℤ → Bool) (day : ℤ) (n : ℕ) (d : ℤ) → day ≤ℤ d → d <ℤ (day +ℤ pos n)
    → p d ≡ true → q (f d) ≡ true → ((e : ℤ) → e <ℤ d → p e ≡ true → q (f e) ≡ false)
    → find q (map f (filter p (days_from day n))) ≡ Some (f d)
unfolding days_from
found_first q f p day zero d low high here passing earlier = absurd (omega (arith, ints))
found_first q f p day (suc n) d low high here passing earlier =
    by_lt_z day d
    (λ l. let more = found_first q f p (day +ℤ pos 1) n d (omega (arith, ints)) (omega (arith, ints)) here passing earlier in
    elim (p day) as (λ b. p day ≡ b → find q (map f (cond b (day ∷ filter p (days_from (day +ℤ pos 1) n)) (filter p (days_from (day +ℤ pos 1) n)))) ≡ Some (f d)) [
      | true ↦ λ t. rw (earlier day l t) more
      | false ↦ λ t. more
    ] refl)
    (λ l. let same : day ≡ d = omega (arith, ints) in
    let first : p day ≡ true = ap p same ∙ here in
    let passes : q (f day) ≡ true = ap (λ e. q (f e)) same ∙ passing in
    rw (first, passes) (ap (λ e. Some (f e)) same))

pub none_found : {X : Type 0} (q : X → Bool) (f : ℤ → X) (p : ℤ → Bool) (day : ℤ) (n : ℕ)
    → ((e : ℤ) → p e ≡ true → q (f e) ≡ false) → find q (map f (filter p (days_from day n))) ≡ None
unfolding days_from
none_found q f p day zero none = refl
none_found q f p day (suc n) none =
    let more = none_found q f p (day +ℤ pos 1) n none in
    elim (p day) as (λ b. p day ≡ b → find q (map f (cond b (day ∷ filter p (days_from (day +ℤ pos 1) n)) (filter p (days_from (day +ℤ pos 1) n)))) ≡ None) [
      | true ↦ λ t. rw (none day t) more
      | false ↦ λ t. more
    ] refl

pub first_is_found : {X : Type 0} (xs : List X) → slice_get xs 0 ≡ find (λ _. true) xs
first_is_found [] = refl
first_is_found (x ∷ xs) = refl
