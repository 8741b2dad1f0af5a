-- The draws and the readings of a part, one behind another.
use Rattle.std.proofs.Common.{◌≡◌, ℕ, ◌+◌, ◌-◌, ◌*◌, ◌≤◌, List, [], ◌∷◌, ◌++◌, map, refl, ap, arith, sym, ◌∙◌, add-one}
use Rattle.std.specs.List.{range_with_len}
use Rattle.std.proofs.lemmas.List.FromFn.{map-range_with_len_more}
use Rattle.fixed_units.specs.declared.readings.Reading.{Reading}
use Rattle.trial_orders.specs.Draws.{Drawn, draw_at, draw_behind}
use Rattle.trial_orders.specs.Questions.{part_readings, reading_of, readings_of_part}

-- the draw of the next place
pub next_draw : (number place latest next : ℕ) → latest ≡ draw_at number place → next ≡ draw_behind latest → next ≡ draw_at number (place + 1)
unfolding draw_at
next_draw number place latest next was is = is ∙ ap draw_behind was ∙ rw (add-one place) refl

-- one draw more
pub one_drawn : (number before from at : ℕ) (old new : Drawn) → from ≤ at → old ≡ record { number = number; made = before + (at - from) }
    → new ≡ record { number = old.number; made = old.made + 1 } → new ≡ record { number = number; made = before + (at + 1 - from) }
one_drawn number before from at old new h was is =
    let count : before + (at - from) + 1 ≡ before + (at + 1 - from) = omega arith in
    is ∙ ap (λ (d : Drawn). record { number = d.number; made = d.made + 1 }) was ∙ ap (λ (n : ℕ). record { number = number; made = n }) count

-- the first so many values of a function, with one more
pub one_more : {X : Type 0} (f : ℕ → X) (from at next : ℕ) (xs ys : List X) → from ≤ at → next ≡ at + 1 → xs ≡ map f (range_with_len from (at - from))
    → ys ≡ xs ++ f at ∷ [] → ys ≡ map f (range_with_len from (next - from))
one_more f from at next xs ys h e first more =
    let count : next - from ≡ at - from + 1 = omega arith in
    more ∙ ap (λ (l : List _). l ++ f at ∷ []) first ∙ sym (map-range_with_len_more f from (at - from) at (omega arith))
    ∙ ap (λ (n : ℕ). map f (range_with_len from n)) (sym count)

pub next_value : {X : Type 0} (f : ℕ → X) (at : ℕ) (xs ys : List X) → xs ≡ map f (range_with_len 0 at) → ys ≡ xs ++ f at ∷ [] → ys ≡ map f (range_with_len 0 (at + 1))
next_value f at xs ys first more = more ∙ ap (λ (l : List _). l ++ f at ∷ []) first ∙ sym (map-range_with_len_more f 0 at at (omega arith))

pub is_part : readings_of_part ≡ 2_400
unfolding readings_of_part
is_part = refl

-- all of a part
pub whole_part : (number station part count : ℕ) (readings : List Reading) → count ≡ 2_400
    → readings ≡ map (reading_of number station) (range_with_len (2_400 * part) count) → readings ≡ part_readings number station part
unfolding part_readings
whole_part number station part count readings e h =
    h ∙ ap (λ (n : ℕ). map (reading_of number station) (range_with_len (2_400 * part) n)) (e ∙ sym is_part)
