-- The widths of verticals add up to the section.
use Rattle.std.proofs.Common.{◌≡◌, ◌∙◌, ℕ, ◌+◌, ◌*◌, ap, List, [], ◌∷◌, Option, Some, ℤ, pos, ◌+ℤ◌, ◌-ℤ◌, ◌*ℤ◌, sym, subst, arith}
use Rattle.std.proofs.Math.IntN.{*ℤ_comm}
use Rattle.std.proofs.lemmas.Int.{ints}
use borrow.Author.Differences.{up, down}
use Rattle.midsection.specs.Fractions.{IsEqual, half, plus, sum, whole}
use Rattle.midsection.specs.Midsection.{widths, widths_behind}
use Rattle.midsection.specs.declared.fractions.Fraction.{Fraction}
use Rattle.midsection.specs.declared.verticals.Vertical.{Vertical}
use Rattle.rising.specs.Ends.{first, last}
use Rattle.rising.proofs.Ends.{last-cons}

distrib : (a b d : ℤ) → (a +ℤ b) *ℤ d ≡ a *ℤ d +ℤ b *ℤ d
distrib a b d =
    let e : up (a +ℤ b) + (down a + down b) ≡ down (a +ℤ b) + (up a + up b) = omega (arith, ints) in
    let p = ap (λ (x : ℕ). x * up d) e in
    let q = ap (λ (x : ℕ). x * down d) e in
    omega (arith, ints, p, q)

twice : (n d : ℤ) → n *ℤ (pos 2 *ℤ d) ≡ n *ℤ d +ℤ n *ℤ d
twice n d =
    let two : pos 2 *ℤ d ≡ d +ℤ d = omega (arith, ints) in
    ap (λ (x : ℤ). n *ℤ x) two ∙ *ℤ_comm n (d +ℤ d) ∙ distrib d d n ∙ ap (λ (x : ℤ). x +ℤ x) (*ℤ_comm d n)

halves : (n m a d : ℤ) → a *ℤ pos 2 ≡ m *ℤ d → (n *ℤ d +ℤ a *ℤ pos 2) *ℤ pos 2 ≡ (n +ℤ m) *ℤ (pos 2 *ℤ d)
halves n m a d h =
    let left : (n *ℤ d +ℤ a *ℤ pos 2) *ℤ pos 2 ≡ (n *ℤ d +ℤ n *ℤ d) +ℤ (m *ℤ d +ℤ m *ℤ d) = omega (arith, ints, h) in
    let right : (n +ℤ m) *ℤ (pos 2 *ℤ d) ≡ (n *ℤ d +ℤ n *ℤ d) +ℤ (m *ℤ d +ℤ m *ℤ d) =
    distrib n m (pos 2 *ℤ d) ∙ ap (λ (x : ℤ). x +ℤ m *ℤ (pos 2 *ℤ d)) (twice n d) ∙ ap (λ (x : ℤ). (n *ℤ d +ℤ n *ℤ d) +ℤ x) (twice m d) in
    left ∙ sym right

half_more : (n m k : ℤ) (s : Fraction) → IsEqual s (half m) → n +ℤ m ≡ k → IsEqual (plus (half n) s) (half k)
half_more n m k s h e = subst (λ (x : ℤ). IsEqual (plus (half n) s) (half x)) e (halves n m s.num s.den h)

one_half : (v a : ℤ) → ((v -ℤ a) *ℤ pos 1 +ℤ pos 0 *ℤ pos 2) *ℤ pos 2 ≡ ((v -ℤ a) +ℤ (v -ℤ v)) *ℤ (pos 2 *ℤ pos 1)
one_half v a = omega (arith, ints)

no_half : (v : ℤ) → (pos 0 *ℤ pos 1 +ℤ pos 0 *ℤ pos 2) *ℤ pos 1 ≡ (v -ℤ v) *ℤ (pos 2 *ℤ pos 1)
no_half v = omega (arith, ints)

-- those behind a distance make up twice the distance from the middle between it and the first vertical to the last one
behind : (a : ℤ) (v : Vertical) (rest : List Vertical) (b : Vertical) → last (v ∷ rest) ≡ Some b
    → IsEqual (sum (widths_behind (Some a) (v ∷ rest))) (half ((b.distance -ℤ a) +ℤ (b.distance -ℤ v.distance)))
unfolding widths_behind
behind a v [] b e =
    let same : v ≡ b = cc in
    subst (λ (x : Vertical). IsEqual (sum (widths_behind (Some a) (v ∷ []))) (half ((x.distance -ℤ a) +ℤ (x.distance -ℤ v.distance)))) same (one_half v.distance a)
behind a v (w ∷ rest) b e =
    half_more (w.distance -ℤ a) ((b.distance -ℤ v.distance) +ℤ (b.distance -ℤ w.distance)) _ (sum (widths_behind (Some v.distance) (w ∷ rest)))
    (behind v.distance w rest b (sym (last-cons v w rest) ∙ e)) (omega (arith, ints))

halved : (k : ℤ) (s : Fraction) → IsEqual s (half (k +ℤ k)) → IsEqual s (whole k)
halved k s h = by s.num s.den h
  where
    by : (a d : ℤ) → a *ℤ pos 2 ≡ (k +ℤ k) *ℤ d → a *ℤ pos 1 ≡ k *ℤ d
    by a d twice_it = let p = distrib k k d in omega (arith, ints, twice_it, p)

pub section : (verticals : List Vertical) (a b : Vertical) → first verticals ≡ Some a → last verticals ≡ Some b
    → IsEqual (sum (widths verticals)) (whole (b.distance -ℤ a.distance))
unfolding widths_behind
section [] a b e f = absurd (cc)
section (v ∷ []) a b e f =
    let here : v ≡ a = cc in
    let there : v ≡ b = cc in
    subst (λ (x : Vertical). IsEqual (sum (widths (v ∷ []))) (whole (b.distance -ℤ x.distance))) here
    (subst (λ (x : Vertical). IsEqual (sum (widths (v ∷ []))) (whole (x.distance -ℤ v.distance))) there (no_half v.distance))
section (v ∷ w ∷ rest) a b e f =
    let here : v ≡ a = cc in
    subst (λ (x : Vertical). IsEqual (sum (widths (v ∷ w ∷ rest))) (whole (b.distance -ℤ x.distance))) here
    (halved (b.distance -ℤ v.distance) (sum (widths (v ∷ w ∷ rest)))
    (half_more (w.distance -ℤ v.distance) ((b.distance -ℤ v.distance) +ℤ (b.distance -ℤ w.distance)) _ (sum (widths_behind (Some v.distance) (w ∷ rest)))
    (behind v.distance w rest b (sym (last-cons v w rest) ∙ f)) (omega (arith, ints))))
