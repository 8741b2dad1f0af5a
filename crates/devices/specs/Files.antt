-- What real files tell: nothing.
use Rattle.std.specs.Prelude.{◌≡◌, ℕ, List, Option, Some, None, IfSome}
use Rattle.std.proofs.Common.{subst}

-- a disk that tells no content stands as no bytes
pub tells_nothing : (bytes : List ℕ) → None ≡ Some bytes → ⊥
tells_nothing bytes is = subst (λ (told : Option (List ℕ)). IfSome told (λ _. ⊥)) is tt
