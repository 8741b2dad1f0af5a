-- Places by the keys of references, as a map keeps them.
use Rattle.std.specs.Prelude.{◌≡◌, ℕ, ◌<◌, ◌==◌, Bool, true, false, cond, List, [], ◌∷◌, map, find, Option, Some, None, is_some, option_map, ◌+◌}
use Rattle.std.proofs.Common.{arith, refl, ap, sym, subst, ◌∙◌, inl, inr}
use Rattle.std.proofs.lemmas.Bool.{false≢true, cases_lt}
use Rattle.std_collections.specs.Map.{lookup}
use Rattle.records.specs.Sheets.{Record}
use Rattle.register.specs.References.{Placed, IsPlacedFor, key_of, place_at, has_reference}

abbrev pub entry_of : ℕ × ℕ → Placed
entry_of e = record { key = e.0; place = e.1 }

found_step : (e : ℕ × ℕ) (b : Bool) (o : Option ℕ) (p : Option Placed) → o ≡ option_map (λ (q : Placed). q.place) p
    → cond b (Some e.1) o ≡ option_map (λ (q : Placed). q.place) (cond b (Some (entry_of e)) p)
found_step e true o p h = refl
found_step e false o p h = h

-- the place that a map has at a key
pub place_found : (key : ℕ) (es : List (ℕ × ℕ)) → lookup (λ k. key == k) es ≡ place_at (map entry_of es) key
place_found key [] = refl
place_found key (e ∷ es) =
    found_step e (key == e.0) (lookup (λ k. key == k) es) (find (λ (p : Placed). key == p.key) (map entry_of es)) (place_found key es)

-- what holds below a number and of it holds below the next one
pub below_next : (P : ℕ → Type 0) (n : ℕ) → ((k : ℕ) → k < n → P k) → P n → (k : ℕ) → k < n + 1 → P k
below_next P n h p k l =
    elim (cases_lt k n) [
      | inl less ↦ h k less
      | inr more ↦ let same : n ≡ k = omega (arith, more, l) in subst P same p
    ]

-- a key keeps a place whose record has not the reference
module _ (kept : List Placed) (pieces : List Record) (reference : List ℕ) where
  abbrev pub KeepsAnother : ℕ → Type 0
  KeepsAnother turn = (place : ℕ) × (place_at kept (key_of reference turn) ≡ Some place) × (has_reference pieces reference place ≡ false)

  -- where the keys of some turns do so, a place that is kept under one of them is another
  pub another : (turn : ℕ) → ((earlier : ℕ) → earlier < turn → KeepsAnother earlier) → (place : ℕ) → (h : IsPlacedFor kept reference place) → h.turn < turn
      → has_reference pieces reference place ≡ false
  another turn all place h l =
      let its = all h.turn l in
      let here = h.here in
      let stands = its.1 in
      let same : its.0 ≡ place = cc in
      subst (λ p. has_reference pieces reference p ≡ false) same its.2

  -- a place that is kept comes before a key that keeps none
  pub before_none : (turn : ℕ) → place_at kept (key_of reference turn) ≡ None → (place : ℕ) → (h : IsPlacedFor kept reference place) → h.turn < turn
  before_none turn none place h =
      elim (cases_lt h.turn turn) [
        | inl less ↦ less
        | inr more ↦ elim (cases_lt turn h.turn) [
          | inl less ↦ absurd (false≢true (ap (λ (o : Option ℕ). is_some o) (sym none) ∙ h.before turn less))
          | inr least ↦
              let same : h.turn ≡ turn = omega (arith, more, least) in
              let here = h.here in
              let there : place_at kept (key_of reference turn) ≡ Some place = subst (λ t. place_at kept (key_of reference t) ≡ Some place) same here in
              absurd (cc)
        ]
      ]
