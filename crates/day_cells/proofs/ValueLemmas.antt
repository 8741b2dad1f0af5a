-- The values of days after a publication and with more room.
use Rattle.std.specs.Prelude.{◌≡◌, ℕ, zero, suc, ◌+◌, ◌-◌, ◌<◌, ◌≤◌, nat_lt, true, List, [], ◌∷◌, ◌++◌, length, replicate, set}
use Rattle.std.proofs.Common.{arith, refl, ap, sym, ◌∙◌, get_or, inl, inr}
use Rattle.std.proofs.Math.ListN.{get_or-map}
use Rattle.std.proofs.lemmas.Bool.{cases_lt, cases_eq}
use Rattle.std.proofs.lemmas.List.{length-map, length-set, length-append, get_or-set_same, get_or-set_other, get_or_append_left, get_or_push, map-append, ext_get_or}
use Rattle.std.proofs.lemmas.List.Sums.{count_by-le-length}
use Rattle.daily_values.specs.declared.day_values.DayValue.{DayValue}
use Rattle.daily_values.specs.declared.day_values.DayValue.TheVariants.{Empty}
use Rattle.day_cells.specs.Values.{value_in, values_in, KeepsValues}
use Rattle.day_cells.proofs.DayLemmas.{widened_front, widened_rest}
use Rattle.day_cells.proofs.KeptLemmas.{count_written}
use Rattle.day_cells.proofs.MarkLemmas.{widened_count, widened_length}

-- what is read in the place of a day
pub value_read : (published : List DayValue) (places : List ℕ) (day : ℕ) → get_or (values_in published places) day Empty ≡ value_in published (get_or places day 0)
value_read published places day = get_or-map (value_in published) places day 0

taken : (place : ℕ) → 0 < place → nat_lt 0 place ≡ true
taken place h = grind arith

-- a place that is another one reads the same behind a push, and behind a write
pushed : (published : List DayValue) (value : DayValue) (place : ℕ) → place ≤ length published → value_in (published ++ value ∷ []) place ≡ value_in published place
pushed published value zero h = refl
pushed published value (suc place) h = get_or_append_left published (value ∷ []) Empty place (omega arith)

written : (published : List DayValue) (value : DayValue) (place other : ℕ) → 0 < place → (other ≡ place → ⊥) → value_in (set published (place - 1) value) other ≡ value_in published other
written published value place zero l h = refl
written published value place (suc other) l h = get_or-set_other published (place - 1) other value Empty (λ e. h (omega arith))

in_place : (published : List DayValue) (place : ℕ) → 0 < place → value_in published place ≡ get_or published (place - 1) Empty
in_place published zero h = absurd (omega arith)
in_place published (suc place) h = let one : suc place - 1 ≡ place = omega arith in rw one refl

module _ (places : List ℕ) (published : List DayValue) (room day : ℕ) (value : DayValue) where
  -- the first value of a day
  pub first_few : KeepsValues places published room → day < length places → get_or places day 0 ≡ 0 → length published < length places
  first_few h l e =
      let count = rw e at (count_written places day 1 l) in
      let most = count_by-le-length (nat_lt 0) (set places day 1) in
      let counted = h.counted in
      omega (arith, count, most, counted, length-set places day 1)

  pub first_value : KeepsValues places published room → day < length places → get_or places day 0 ≡ 0
      → values_in (published ++ value ∷ []) (set places day (length published + 1)) ≡ set (values_in published places) day value
  first_value h l e =
      let more = published ++ value ∷ [] in
      let new = set places day (length published + 1) in
      ext_get_or Empty (values_in more new) (set (values_in published places) day value)
      (length-map new (value_in more) ∙ length-set places day (length published + 1) ∙ sym (length-map places (value_in published)) ∙ sym (length-set (values_in published places) day value))
      (λ k m. elim (cases_eq k day) [
        | inl f ↦ (let here : get_or new k 0 ≡ length published + 1 = ap (λ n. get_or new n 0) f ∙ get_or-set_same places day (length published + 1) 0 l in
            let long : day < length (values_in published places) = rw (length-map places (value_in published)) l in
            value_read more new k ∙ ap (value_in more) here ∙ in_place more (length published + 1) (omega arith)
            ∙ get_or_push published value Empty (length published + 1 - 1) (omega arith)
            ∙ sym (ap (λ n. get_or (set (values_in published places) day value) n Empty) f ∙ get_or-set_same (values_in published places) day value Empty long))
        | inr f ↦ value_read more new k ∙ ap (value_in more) (get_or-set_other places day k (length published + 1) 0 f)
            ∙ pushed published value (get_or places k 0) (h.within k) ∙ sym (value_read published places k)
            ∙ sym (get_or-set_other (values_in published places) day k value Empty f)
      ])

  pub first_kept : KeepsValues places published room → day < length places → get_or places day 0 ≡ 0
      → KeepsValues (set places day (length published + 1)) (published ++ value ∷ []) room
  first_kept h l e =
      let n = length published + 1 in
      let new = set places day n in
      let long : length (published ++ value ∷ []) ≡ n = length-append published (value ∷ []) in
      let same = length-set places day n in
      let here = get_or-set_same places day n 0 l in
      let count = rw (e, taken n (omega arith)) at (count_written places day n l) in
      let counted = h.counted in
      let enough = h.enough in
      let few = h.few in
      record {
        within = λ k. elim (cases_eq k day) [
          | inl f ↦ (let a : get_or new k 0 ≡ n = ap (λ m. get_or new m 0) f ∙ here in omega (arith, a, long))
          | inr f ↦ (let a = get_or-set_other places day k n 0 f in let b = h.within k in omega (arith, a, b, long))
        ];
        distinct = λ k m some is. elim (cases_eq k day) [
          | inl f ↦ elim (cases_eq m day) [
            | inl g ↦ f ∙ sym g
            | inr g ↦ (let a : get_or new k 0 ≡ n = ap (λ m. get_or new m 0) f ∙ here in
                let b = get_or-set_other places day m n 0 g in
                let d = h.within m in
                absurd (omega (arith, a, b, d, is)))
          ]
          | inr f ↦ (let a = get_or-set_other places day k n 0 f in
              elim (cases_eq m day) [
                | inl g ↦ (let b : get_or new m 0 ≡ n = ap (λ m. get_or new m 0) g ∙ here in
                    let d = h.within k in
                    absurd (omega (arith, a, b, d, is)))
                | inr g ↦ (let b = get_or-set_other places day m n 0 g in
                    h.distinct k m (omega (arith, a, some)) (sym a ∙ is ∙ b))
              ])
        ];
        counted = omega (arith, count, counted, long);
        enough = omega (arith, same, enough);
        few = omega (arith, same, few);
      }

  -- another value of a day
  pub next_within : KeepsValues places published room → (0 < get_or places day 0) → get_or places day 0 - 1 < length published
  next_within h some = let a = h.within day in omega arith

  pub next_value : KeepsValues places published room → 0 < get_or places day 0
      → values_in (set published (get_or places day 0 - 1) value) places ≡ set (values_in published places) day value
  next_value h some =
      let place = get_or places day 0 in
      let new = set published (place - 1) value in
      ext_get_or Empty (values_in new places) (set (values_in published places) day value)
      (length-map places (value_in new) ∙ sym (length-map places (value_in published)) ∙ sym (length-set (values_in published places) day value))
      (λ k m. elim (cases_eq k day) [
        | inl f ↦ (let long : day < length (values_in published places) = rw (length-map places (value_in new), f, ← length-map places (value_in published)) at m in
            value_read new places k ∙ ap (λ n. value_in new (get_or places n 0)) f ∙ in_place new place some
            ∙ get_or-set_same published (place - 1) value Empty (next_within h some)
            ∙ sym (ap (λ n. get_or (set (values_in published places) day value) n Empty) f ∙ get_or-set_same (values_in published places) day value Empty long))
        | inr f ↦ value_read new places k ∙ written published value place (get_or places k 0) some (λ e. f (sym (h.distinct day k some (sym e))))
            ∙ sym (value_read published places k) ∙ sym (get_or-set_other (values_in published places) day k value Empty f)
      ])

  pub next_kept : KeepsValues places published room → KeepsValues places (set published (get_or places day 0 - 1) value) room
  next_kept h =
      let same = length-set published (get_or places day 0 - 1) value in
      record {
        within = λ k. (let a = h.within k in omega (arith, a, same));
        distinct = h.distinct;
        counted = same ∙ h.counted;
        enough = h.enough;
        few = h.few;
      }

map_blank : (published : List DayValue) (n : ℕ) → values_in published (replicate n 0) ≡ replicate n Empty
map_blank published zero = refl
map_blank published (suc n) = ap (λ l. Empty ∷ l) (map_blank published n)

module _ (places : List ℕ) (published : List DayValue) (front back : ℕ) where
  abbrev wide : List ℕ
  wide = (replicate front 0 ++ places) ++ replicate back 0

  pub values_widened : values_in published wide ≡ (replicate front Empty ++ values_in published places) ++ replicate back Empty
  values_widened =
      map-append (value_in published) (replicate front 0 ++ places) (replicate back 0)
      ∙ ap (λ l. l ++ values_in published (replicate back 0)) (map-append (value_in published) (replicate front 0) places ∙ ap (λ l. l ++ values_in published places) (map_blank published front))
      ∙ ap (λ l. (replicate front Empty ++ values_in published places) ++ l) (map_blank published back)

  pub widened_kept : (room more : ℕ) → KeepsValues places published room → length wide ≤ more → front + length places + back < 4_294_967_296
      → KeepsValues wide published more
  widened_kept room more h enough few = record {
    within = λ k. elim (cases_lt k front) [
      | inl l ↦ (let a = widened_front places 0 front back k l in omega (arith, a))
      | inr l ↦ (let a = widened_rest places 0 front back k l in let b = h.within (k - front) in omega (arith, a, b))
    ];
    distinct = λ k m some is. elim (cases_lt k front) [
      | inl l ↦ (let a = widened_front places 0 front back k l in absurd (omega (arith, a, some)))
      | inr l ↦ (let a = widened_rest places 0 front back k l in
          elim (cases_lt m front) [
            | inl n ↦ (let b = widened_front places 0 front back m n in absurd (omega (arith, a, b, some, is)))
            | inr n ↦ (let b = widened_rest places 0 front back m n in
                let same : k - front ≡ m - front = h.distinct (k - front) (m - front) (omega (arith, a, some)) (sym a ∙ is ∙ b) in
                omega arith)
          ])
    ];
    counted = h.counted ∙ sym (widened_count places front back);
    enough = enough;
    few = (let a = widened_length places 0 front back in omega (arith, a));
  }
