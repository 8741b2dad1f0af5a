-- What is known of an option is known of what it has.
use Rattle.std.proofs.Common.{◌≡◌, Option, Some, subst}
use Rattle.std.specs.Prelude.{IfSome}

pub some_at : {A : Type 0} (P : A → Type 0) (r : Option A) (x : A) → r ≡ Some x → IfSome r P → P x
some_at {A} P r x e h = subst (λ (o : Option A). IfSome o P) e h
