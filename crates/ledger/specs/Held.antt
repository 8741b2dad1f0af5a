-- The bytes of a disk that is read and never written.
use Rattle.std.specs.Prelude.{◌≡◌, ℕ, List, Option, Some, IfSome}
use Rattle.std.proofs.Common.{refl, subst}

-- what it tells is what it has
pub told : (held bytes : List ℕ) → Some held ≡ Some bytes → bytes ≡ held
told held bytes is = subst (λ (o : Option (List ℕ)). IfSome o (λ b. b ≡ held)) is refl
