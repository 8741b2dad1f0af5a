-- What is kept of points that are thinned by columns.
use Rattle.std.specs.Prelude.{◌≡◌, ℕ, ◌≤◌, true, List, [], ◌∷◌, ◌++◌, All, Contains}
use Rattle.drawings.specs.Columns.{goes_on, heights}
use Rattle.drawings.specs.declared.columns.Point.{Point}
use Rattle.drawings.specs.declared.columns.Stroke.{Stroke}

-- a column: a point, and behind it points that go on at its x
abbrev pub IsColumn : List Point → Type 0
IsColumn [] = ⊥
IsColumn (p ∷ points) = All (λ q. goes_on p.x q ≡ true) points

-- a stroke keeps the first, the least, the greatest and the last height of a point and those behind it
pub record Keeps (p : Point) (points : List Point) (s : Stroke) : Type 0 where
  pub across : s.x ≡ p.x
  pub joined : s.joined ≡ p.joined
  pub first : s.first ≡ p.y
  pub low : All (λ y. s.low ≤ y) (heights (p ∷ points))
  pub low_is : Contains (heights (p ∷ points)) s.low
  pub high : All (λ y. y ≤ s.high) (heights (p ∷ points))
  pub high_is : Contains (heights (p ∷ points)) s.high
  pub last : (before : List ℕ) × (heights (p ∷ points) ≡ before ++ s.last ∷ [])
