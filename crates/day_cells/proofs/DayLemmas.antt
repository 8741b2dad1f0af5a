-- What a column says of a day, by the place of the day.
use Rattle.std.specs.Prelude.{◌≡◌, ℕ, ◌+◌, ◌-◌, ◌<◌, ◌≤◌, true, false, cond, List, ◌++◌, length, replicate, set, ℤ, pos, ◌+ℤ◌, ◌-ℤ◌, ◌<ℤ◌, ◌≤ℤ◌, int_le, unsigned_abs}
use Rattle.std.specs.Ordering.{int_eq}
use Rattle.std.proofs.Common.{arith, refl, sym, ◌∙◌, get_or, inl, inr}
use Rattle.std.proofs.lemmas.Bool.{cases_lt, cases_eq}
use Rattle.std.proofs.lemmas.Bool.Decides.{Decides-int_eq}
use Rattle.std.proofs.lemmas.Int.{ints, by_lt_z}
use Rattle.std.proofs.lemmas.List.{get_or_past, get_or-set_same, get_or-set_other, get_or-replicate, get_or_append_left, get_or-append_right, length-replicate, length-append}
use Rattle.day_cells.specs.Days.{on_day}

-- how far a day is behind another one
distance : (start day : ℤ) (k : ℕ) → day ≡ start +ℤ pos k → unsigned_abs (day -ℤ start) ≡ k
distance start day k e = omega (arith, ints)

reaches : (start day : ℤ) → start ≤ℤ day → int_le start day ≡ true
reaches start day h = grind (arith, ints)

falls_short : (start day : ℤ) → day <ℤ start → int_le start day ≡ false
falls_short start day h = grind (arith, ints)

from_start : (start day : ℤ) (k : ℕ) → day ≡ start +ℤ pos k → start ≤ℤ day
from_start start day k e = omega (arith, ints)

pub place_of_day : (start day : ℤ) → start ≤ℤ day → day ≡ start +ℤ pos (unsigned_abs (day -ℤ start))
place_of_day start day h = omega (arith, ints)

-- a day is before a start, or so many days behind it
pub by_day : {P : Type 0} (start day : ℤ) → (day <ℤ start → P) → ((k : ℕ) → day ≡ start +ℤ pos k → P) → P
by_day start day f g = by_lt_z day start f (λ h. g (unsigned_abs (day -ℤ start)) (place_of_day start day h))

module _ {X : Type 0} where
  pub on_day_before : (start : ℤ) (xs : List X) (z : X) (day : ℤ) → day <ℤ start → on_day start xs z day ≡ z
  unfolding on_day
  on_day_before start xs z day h = rw (falls_short start day h) refl

  pub on_day_at : (start : ℤ) (xs : List X) (z : X) (day : ℤ) (k : ℕ) → day ≡ start +ℤ pos k → on_day start xs z day ≡ get_or xs k z
  unfolding on_day
  on_day_at start xs z day k e = rw (reaches start day (from_start start day k e), distance start day k e) refl

  pub on_day_behind : (start : ℤ) (xs : List X) (z : X) (day : ℤ) → (start +ℤ pos (length xs)) ≤ℤ day → on_day start xs z day ≡ z
  on_day_behind start xs z day h =
      let from : start ≤ℤ day = omega (arith, ints) in
      let k = unsigned_abs (day -ℤ start) in
      let e = place_of_day start day from in
      let past : length xs ≤ k = omega (arith, ints) in
      on_day_at start xs z day k e ∙ get_or_past xs k z past

  -- a write changes what is said of its day alone
  pub on_day_set : (start : ℤ) (xs : List X) (z : X) (day : ℤ) (k : ℕ) (v : X) → day ≡ start +ℤ pos k → k < length xs → (other : ℤ)
      → on_day start (set xs k v) z other ≡ cond (int_eq day other) v (on_day start xs z other)
  on_day_set start xs z day k v e l other =
      by_day start other
      (λ h. let no : int_eq day other ≡ false = grind (arith, ints) in
      rw no (on_day_before start (set xs k v) z other h ∙ sym (on_day_before start xs z other h)))
      (λ j f. elim (cases_eq j k) [
        | inl s ↦ (let yes : int_eq day other ≡ true = (Decides-int_eq day other).1 (omega (arith, ints)) in
            rw yes (on_day_at start (set xs k v) z other k (omega (arith, ints)) ∙ get_or-set_same xs k v z l))
        | inr s ↦ (let no : int_eq day other ≡ false = grind (arith, ints) in
            rw no (on_day_at start (set xs k v) z other j f ∙ get_or-set_other xs k j v z s ∙ sym (on_day_at start xs z other j f)))
      ])

  blank : (n : ℕ) (z : X) (k : ℕ) → get_or (replicate n z) k z ≡ z
  blank n z k = elim (cases_lt k n) [
    | inl l ↦ get_or-replicate n k z z l
    | inr l ↦ get_or_past (replicate n z) k z (omega (arith, length-replicate n z))
  ]

  -- a column with room at both ends
  pub widened_front : (xs : List X) (z : X) (front back k : ℕ) → k < front → get_or ((replicate front z ++ xs) ++ replicate back z) k z ≡ z
  widened_front xs z front back k l =
      let inner : length (replicate front z ++ xs) ≡ front + length xs = omega (arith, length-append (replicate front z) xs, length-replicate front z) in
      get_or_append_left (replicate front z ++ xs) (replicate back z) z k (omega arith)
      ∙ get_or_append_left (replicate front z) xs z k (omega (arith, length-replicate front z)) ∙ blank front z k

  pub widened_rest : (xs : List X) (z : X) (front back k : ℕ) → front ≤ k
      → get_or ((replicate front z ++ xs) ++ replicate back z) k z ≡ get_or xs (k - front) z
  widened_rest xs z front back k l =
      let inner : length (replicate front z ++ xs) ≡ front + length xs = omega (arith, length-append (replicate front z) xs, length-replicate front z) in
      elim (cases_lt k (front + length xs)) [
        | inl m ↦ get_or_append_left (replicate front z ++ xs) (replicate back z) z k (omega arith)
            ∙ get_or-append_right (replicate front z) xs front k z (length-replicate front z) l
        | inr m ↦ get_or-append_right (replicate front z ++ xs) (replicate back z) (front + length xs) k z inner m
            ∙ blank back z (k - (front + length xs)) ∙ sym (get_or_past xs (k - front) z (omega arith))
      ]

  -- room at both ends changes nothing that is said
  pub on_day_widened : (start wide : ℤ) (xs : List X) (z : X) (front back : ℕ) → start ≡ wide +ℤ pos front → (day : ℤ)
      → on_day wide ((replicate front z ++ xs) ++ replicate back z) z day ≡ on_day start xs z day
  on_day_widened start wide xs z front back e day =
      let ys = (replicate front z ++ xs) ++ replicate back z in
      by_day wide day
      (λ h. on_day_before wide ys z day h ∙ sym (on_day_before start xs z day (omega (arith, ints))))
      (λ j f. on_day_at wide ys z day j f ∙ elim (cases_lt j front) [
        | inl l ↦ widened_front xs z front back j l ∙ sym (on_day_before start xs z day (omega (arith, ints)))
        | inr l ↦ widened_rest xs z front back j l ∙ sym (on_day_at start xs z day (j - front) (omega (arith, ints)))
      ])
