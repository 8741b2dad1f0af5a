-- The days of the calendar: whether a test holds on one of them, which of them it keeps, and how many.
use Rattle.std.specs.Prelude.{◌≡◌, ◌≤◌, ℕ, zero, suc, Bool, true, false, cond, ◌||◌, List, [], ◌∷◌, filter, length, ℤ, pos, ◌+ℤ◌, ◌<ℤ◌, ◌≤ℤ◌}
use Rattle.std.specs.List.{list_any}
use Rattle.std.proofs.Common.{arith, refl, ap, sym, ◌∙◌}
use Rattle.std.proofs.lemmas.Int.{ints, by_lt_z}
use Rattle.fixed_units.specs.Quantities.{IsDay, first_day}
use Rattle.fixed_units.specs.Calendar.{days_from, days_of_calendar, calendar}

-- a day is among so many from a day on
pub record IsAmong (day : ℤ) (n : ℕ) (d : ℤ) : Type 0 where
  pub low : day ≤ℤ d
  pub high : d <ℤ (day +ℤ pos n)

pub among_rest : (day : ℤ) (n : ℕ) (d : ℤ) → IsAmong (day +ℤ pos 1) n d → IsAmong day (suc n) d
among_rest day n d h =
    let a = h.low in
    let b = h.high in
    record { low = omega (arith, ints); high = omega (arith, ints) }

pub among_first : (day : ℤ) (n : ℕ) → IsAmong day (suc n) day
among_first day n = record { low = omega (arith, ints); high = omega (arith, ints) }

pub is_among : (d : ℤ) → IsDay d → IsAmong first_day days_of_calendar d
is_among d h =
    let a = h.low in
    let b = h.high in
    record { low = omega (arith, ints); high = omega (arith, ints) }

pub is_day : (d : ℤ) → IsAmong first_day days_of_calendar d → IsDay d
is_day d h =
    let a = h.low in
    let b = h.high in
    record { low = omega (arith, ints); high = omega (arith, ints) }

-- a day of the calendar that passes a test is found in it
any_here : (b c : Bool) → b ≡ true → (b || c) ≡ true
any_here b c h = rw h refl

any_later : (b c : Bool) → c ≡ true → (b || c) ≡ true
any_later true c h = refl
any_later false c h = h

any_days : (p : ℤ → Bool) (day : ℤ) (n : ℕ) (d : ℤ) → IsAmong day n d → p d ≡ true → list_any p (days_from day n) ≡ true
unfolding days_from
any_days p day zero d w h = absurd (let a = w.low in let b = w.high in omega (arith, ints))
any_days p day (suc n) d w h =
    by_lt_z day d
    (λ l. any_later (p day) (list_any p (days_from (day +ℤ pos 1) n))
    (any_days p (day +ℤ pos 1) n d (record { low = omega (arith, ints); high = let b = w.high in omega (arith, ints) }) h))
    (λ m. let e : d ≡ day = (let a = w.low in omega (arith, ints)) in any_here (p day) (list_any p (days_from (day +ℤ pos 1) n)) (ap p (sym e) ∙ h))

pub calendar_any : (p : ℤ → Bool) (d : ℤ) → IsDay d → p d ≡ true → list_any p calendar ≡ true
unfolding calendar
calendar_any p d k h = any_days p first_day days_of_calendar d (is_among d k) h

any_none_step : (b c : Bool) → b ≡ false → c ≡ false → (b || c) ≡ false
any_none_step b c e f = rw (e, f) refl

any_days_none : (p : ℤ → Bool) (day : ℤ) (n : ℕ) → ((d : ℤ) → IsAmong day n d → p d ≡ false) → list_any p (days_from day n) ≡ false
unfolding days_from
any_days_none p day zero h = refl
any_days_none p day (suc n) h =
    any_none_step (p day) (list_any p (days_from (day +ℤ pos 1) n)) (h day (among_first day n))
    (any_days_none p (day +ℤ pos 1) n (λ d k. h d (among_rest day n d k)))

pub calendar_any_none : (p : ℤ → Bool) → ((d : ℤ) → IsDay d → p d ≡ false) → list_any p calendar ≡ false
unfolding calendar
calendar_any_none p h = any_days_none p first_day days_of_calendar (λ d k. h d (is_day d k))

other_or_own : (p : ℤ → Bool) (own d : ℤ) → p own ≡ false → ((d ≡ own → ⊥) → p d ≡ false) → p d ≡ false
other_or_own p own d e k =
    by_lt_z d own (λ l. k (λ f. omega (arith, ints, l, f)))
    (λ l. by_lt_z own d (λ m. k (λ f. omega (arith, ints, m, f))) (λ m. let f : d ≡ own = omega (arith, ints) in ap p f ∙ e))

one_step : (p : ℤ → Bool) (own : ℤ) (b : Bool) → p own ≡ b → IsDay own → ((d : ℤ) → IsDay d → (d ≡ own → ⊥) → p d ≡ false) → list_any p calendar ≡ b
one_step p own true e h k = calendar_any p own h e
one_step p own false e h k = calendar_any_none p (λ d i. other_or_own p own d e (k d i))

-- a test that holds on no other day holds where it does on that one
pub calendar_one : (p : ℤ → Bool) (own : ℤ) → IsDay own → ((d : ℤ) → IsDay d → (d ≡ own → ⊥) → p d ≡ false) → list_any p calendar ≡ p own
calendar_one p own h k = one_step p own (p own) refl h k

-- how many they are
pub length_from : (day : ℤ) (n : ℕ) → length (days_from day n) ≡ n
unfolding days_from
length_from day zero = refl
length_from day (suc n) = ap suc (length_from (day +ℤ pos 1) n)

-- a test that holds on each of the days keeps them all
kept_step : (b : Bool) (day : ℤ) (ps qs : List ℤ) → b ≡ true → ps ≡ qs → cond b (day ∷ ps) ps ≡ day ∷ qs
kept_step b day ps qs e f = rw (e, f) refl

pub filter_days_all : (p : ℤ → Bool) (day : ℤ) (n : ℕ) → ((d : ℤ) → IsAmong day n d → p d ≡ true) → filter p (days_from day n) ≡ days_from day n
unfolding days_from
filter_days_all p day zero h = refl
filter_days_all p day (suc n) h =
    kept_step (p day) day (filter p (days_from (day +ℤ pos 1) n)) (days_from (day +ℤ pos 1) n) (h day (among_first day n))
    (filter_days_all p (day +ℤ pos 1) n (λ d k. h d (among_rest day n d k)))

-- one that holds on none of them keeps none
pub left_step : (b : Bool) (day : ℤ) (ps qs : List ℤ) → b ≡ false → ps ≡ qs → cond b (day ∷ ps) ps ≡ qs
left_step b day ps qs e f = rw (e, f) refl

pub filter_days_none : (p : ℤ → Bool) (day : ℤ) (n : ℕ) → ((d : ℤ) → IsAmong day n d → p d ≡ false) → filter p (days_from day n) ≡ []
unfolding days_from
filter_days_none p day zero h = refl
filter_days_none p day (suc n) h =
    left_step (p day) day (filter p (days_from (day +ℤ pos 1) n)) [] (h day (among_first day n))
    (filter_days_none p (day +ℤ pos 1) n (λ d k. h d (among_rest day n d k)))

pub calendar_none : (p : ℤ → Bool) → ((d : ℤ) → IsDay d → p d ≡ false) → filter p calendar ≡ []
unfolding calendar
calendar_none p h = filter_days_none p first_day days_of_calendar (λ d k. h d (is_day d k))

-- tests that agree keep the same
pub kept_same : (p q : ℤ → Bool) (day : ℤ) (ps qs : List ℤ) → p day ≡ q day → ps ≡ qs → cond (p day) (day ∷ ps) ps ≡ cond (q day) (day ∷ qs) qs
kept_same p q day ps qs e f = rw (e, f) refl

-- tests that agree from a day on keep the same of the days from there on
pub filter_days_same : (p q : ℤ → Bool) (day : ℤ) (n : ℕ) → ((d : ℤ) → day ≤ℤ d → p d ≡ q d)
    → filter p (days_from day n) ≡ filter q (days_from day n)
unfolding days_from
filter_days_same p q day zero h = refl
filter_days_same p q day (suc n) h =
    kept_same p q day (filter p (days_from (day +ℤ pos 1) n)) (filter q (days_from (day +ℤ pos 1) n))
    (h day (omega (arith, ints)))
    (filter_days_same p q (day +ℤ pos 1) n (λ d k. h d (omega (arith, ints))))

-- a test that tells no more keeps no more of the days
fewer_step : (b c : Bool) (day : ℤ) (ps qs : List ℤ) → (b ≡ true → c ≡ true) → length ps ≤ length qs → length (cond b (day ∷ ps) ps) ≤ length (cond c (day ∷ qs) qs)
fewer_step true true day ps qs h k = omega arith
fewer_step true false day ps qs h k = absurd (let e = h refl in cc)
fewer_step false true day ps qs h k = omega arith
fewer_step false false day ps qs h k = k

fewer_days : (p q : ℤ → Bool) (day : ℤ) (n : ℕ) → ((d : ℤ) → IsAmong day n d → p d ≡ true → q d ≡ true)
    → length (filter p (days_from day n)) ≤ length (filter q (days_from day n))
unfolding days_from
fewer_days p q day zero h = omega arith
fewer_days p q day (suc n) h =
    fewer_step (p day) (q day) day (filter p (days_from (day +ℤ pos 1) n)) (filter q (days_from (day +ℤ pos 1) n)) (h day (among_first day n))
    (fewer_days p q (day +ℤ pos 1) n (λ d k. h d (among_rest day n d k)))

pub fewer_in_calendar : (p q : ℤ → Bool) → ((d : ℤ) → IsDay d → p d ≡ true → q d ≡ true) → length (filter p calendar) ≤ length (filter q calendar)
unfolding calendar
fewer_in_calendar p q h = fewer_days p q first_day days_of_calendar (λ d k. h d (is_day d k))
