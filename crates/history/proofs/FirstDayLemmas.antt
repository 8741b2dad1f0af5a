-- The first day of the calendar that passes a test.
use Rattle.std.specs.Prelude.{◌≡◌, ℕ, zero, suc, Bool, true, false, ◌&&◌, cond, List, [], ◌∷◌, filter, find, Option, Some, ℤ, pos, ◌+ℤ◌, ◌<ℤ◌}
use Rattle.std.proofs.Common.{arith, refl, ap, sym, subst, ◌∙◌}
use Rattle.std.proofs.lemmas.Bool.{false≢true}
use Rattle.std.proofs.lemmas.Int.{ints, by_lt_z}
use Rattle.fixed_units.specs.Calendar.{calendar, days_from, days_of_calendar}
use Rattle.fixed_units.specs.Quantities.{first_day}
use Rattle.fixed_units.proofs.CalendarLemmas.{IsAmong, among_first, among_rest}

-- what is found of the elements that pass one test is what is found by both
find_if : (p : ℤ → Bool) (b : Bool) (x : ℤ) (xs : List ℤ) → find p (cond b (x ∷ xs) xs) ≡ cond b (cond (p x) (Some x) (find p xs)) (find p xs)
find_if p true x xs = refl
find_if p false x xs = refl

filtered_step : (b c : Bool) (x : ℤ) (found all : Option ℤ) → found ≡ all → cond {A = Option ℤ} b (cond c (Some x) found) found ≡ cond (b && c) (Some x) all
filtered_step true true x found all h = refl
filtered_step true false x found all h = h
filtered_step false c x found all h = h

pub find_filtered : (p q : ℤ → Bool) (xs : List ℤ) → find p (filter q xs) ≡ find (λ d. q d && p d) xs
find_filtered p q [] = refl
find_filtered p q (x ∷ xs) =
    find_if p (q x) x (filter q xs)
    ∙ filtered_step (q x) (p x) x (find p (filter q xs)) (find (λ d. q d && p d) xs) (find_filtered p q xs)

-- of so many days from a day on it is one that passes, and none before it does
pub record IsFirst (test : ℤ → Bool) (day : ℤ) (n : ℕ) (found : ℤ) : Type 0 where
  pub among : IsAmong day n found
  pub passes : test found ≡ true
  pub none_before : (earlier : ℤ) → IsAmong day n earlier → earlier <ℤ found → test earlier ≡ false

module _ (test : ℤ → Bool) where
  found_step : (day : ℤ) (n : ℕ) (found : ℤ) (b : Bool) → test day ≡ b → cond b (Some day) (find test (days_from (day +ℤ pos 1) n)) ≡ Some found
      → (find test (days_from (day +ℤ pos 1) n) ≡ Some found → IsFirst test (day +ℤ pos 1) n found) → IsFirst test day (suc n) found
  found_step day n found true e h rec =
      let same : day ≡ found = cc in
      record {
        among = subst (IsAmong day (suc n)) same (among_first day n);
        passes = ap test (sym same) ∙ e;
        none_before = λ earlier k l. let a = k.low in absurd (omega (arith, ints, a, l, same));
      }
  found_step day n found false e h rec =
      let rest = rec h in
      record {
        among = among_rest day n found rest.among;
        passes = rest.passes;
        none_before = λ earlier k l.
            let a = k.low in
            let b = k.high in
            by_lt_z day earlier
            (λ m. rest.none_before earlier (record { low = omega (arith, ints, m); high = omega (arith, ints, b) }) l)
            (λ m. let same : earlier ≡ day = omega (arith, ints, a, m) in ap test same ∙ e);
      }

  found_first : (day : ℤ) (n : ℕ) (found : ℤ) → find test (days_from day n) ≡ Some found → IsFirst test day n found
  unfolding days_from
  found_first day zero found h = absurd (cc)
  found_first day (suc n) found h = found_step day n found (test day) refl h (found_first (day +ℤ pos 1) n found)

  first_step : (day : ℤ) (n : ℕ) (found : ℤ) (b : Bool) → test day ≡ b → IsFirst test day (suc n) found
      → (IsFirst test (day +ℤ pos 1) n found → find test (days_from (day +ℤ pos 1) n) ≡ Some found)
      → cond b (Some day) (find test (days_from (day +ℤ pos 1) n)) ≡ Some found
  first_step day n found true e f rec =
      let a = f.among.low in
      by_lt_z day found
      (λ l. absurd (false≢true (sym (f.none_before day (among_first day n) l) ∙ e)))
      (λ m. let same : day ≡ found = omega (arith, ints, a, m) in ap (λ (d : ℤ). Some d) same)
  first_step day n found false e f rec =
      let a = f.among.low in
      let b = f.among.high in
      by_lt_z day found
      (λ l. rec (record {
        among = record { low = omega (arith, ints, l); high = omega (arith, ints, b) };
        passes = f.passes;
        none_before = λ earlier k m. f.none_before earlier (among_rest day n earlier k) m;
      }))
      (λ m. let same : found ≡ day = omega (arith, ints, a, m) in absurd (false≢true (sym e ∙ ap test (sym same) ∙ f.passes)))

  first_found : (day : ℤ) (n : ℕ) (found : ℤ) → IsFirst test day n found → find test (days_from day n) ≡ Some found
  unfolding days_from
  first_found day zero found f = absurd (let a = f.among.low in let b = f.among.high in omega (arith, ints, a, b))
  first_found day (suc n) found f = first_step day n found (test day) refl f (first_found (day +ℤ pos 1) n found)

  -- what is found in the calendar
  pub found_in_calendar : (found : ℤ) → find test calendar ≡ Some found → IsFirst test first_day days_of_calendar found
  unfolding calendar
  found_in_calendar found h = found_first first_day days_of_calendar found h

  pub first_in_calendar : (found : ℤ) → IsFirst test first_day days_of_calendar found → find test calendar ≡ Some found
  unfolding calendar
  first_in_calendar found f = first_found first_day days_of_calendar found f
