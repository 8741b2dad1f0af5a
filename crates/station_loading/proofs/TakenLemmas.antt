-- What is taken of a list, one item behind another.
use Rattle.std.proofs.Common.{◌≡◌, refl, sym, ◌∙◌, ap, List, [], ◌∷◌, ◌++◌, length, Option, Some, None, append_assoc, append-nil, arith}
use Rattle.std.specs.declared.vec.IntoIter.{IntoIter}
use Rattle.std.specs.Vec.Iter.{into_iter_items, into_iter_len, into_iter_steps}

-- one more of a list was taken
pub one_more : {A Z : Type 0} (all yielded : List A) (s t : IntoIter A Z) (r : Option A) (x : A) → r ≡ Some x → into_iter_steps s r t
    → all ≡ yielded ++ into_iter_items s → into_iter_len s ≡ length (into_iter_items s)
    → (all ≡ (yielded ++ x ∷ []) ++ into_iter_items t) × (into_iter_len t ≡ length (into_iter_items t))
one_more all yielded s t None x is steps whole count = absurd (cc is)
one_more {A} all yielded s t (Some y) x is steps whole count =
    let same : y ≡ x = cc is in
    let items : into_iter_items s ≡ y ∷ into_iter_items t = steps.0 in
    let long = ap length items in (
      whole ∙ ap (λ (l : List A). yielded ++ l) items ∙ ap (λ (z : A). yielded ++ z ∷ into_iter_items t) same
          ∙ sym (append_assoc yielded (x ∷ []) (into_iter_items t)),
      omega (arith, steps.1, count, long),
    )

-- and none was left
pub none_more : {A Z : Type 0} (all yielded : List A) (s t : IntoIter A Z) (r : Option A) → r ≡ None → into_iter_steps s r t
    → all ≡ yielded ++ into_iter_items s → into_iter_len s ≡ length (into_iter_items s) → all ≡ yielded
none_more {A} all yielded s t None is steps whole count =
    let few : length (into_iter_items s) ≡ 0 = omega (arith, steps.0, count) in
    whole ∙ ap (λ (l : List A). yielded ++ l) (no_items (into_iter_items s) few) ∙ append-nil yielded
  where
    no_items : (l : List A) → length l ≡ 0 → l ≡ []
    no_items [] none = refl
    no_items (x ∷ l) none = absurd (cc none)
none_more all yielded s t (Some y) is steps whole count = absurd (cc is)
