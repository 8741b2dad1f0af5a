-- Least covers are told apart, and the need of a mean is at most the day.
use Rattle.std.specs.Prelude.{◌≡◌, ℕ, ◌≤◌, IfSome, Option, Some, None}
use Rattle.std.specs.Bool.{Decides}
use Rattle.std.proofs.Common.{refl, ap, arith}
use Rattle.std.proofs.lemmas.Bool.Decides.{Decides-eqb, Decides-like}
use Rattle.editions.specs.Covers.{IsLeastCover, need, same_least}

pub leasts_decide : (x y : Option ℕ) → Decides (same_least x y) (x ≡ y)
leasts_decide None None = (λ k. refl, λ e. refl)
leasts_decide None (Some b) = (λ k. absurd (cc), λ e. absurd (cc))
leasts_decide (Some a) None = (λ k. absurd (cc), λ e. absurd (cc))
leasts_decide (Some a) (Some b) = Decides-like _ (λ e. ap Some e) (λ e. cc) (Decides-eqb a b)

pub need-most : (length : ℕ) (least : Option ℕ) → need length least ≤ length
need-most length None = omega arith
need-most length (Some minutes) = omega arith

pub need-some : (length : ℕ) (least : Option ℕ) → 1 ≤ length → IfSome least IsLeastCover → 1 ≤ need length least
need-some length None h k = h
need-some length (Some minutes) h k = let low = k.least in omega (arith, low)
