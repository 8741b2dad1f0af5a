-- The kind of a number has that number, and that of a name has that name.
use Rattle.std.specs.Prelude.{◌≡◌, ℕ, ◌==◌, Bool, true, List, bytes_eq, find, MatchOption, Option, Some}
use Rattle.std.proofs.Common.{refl, subst}
use Rattle.std.proofs.lemmas.Bool.{eqb-true}
use Rattle.readings.proofs.Selecting.{find_passes}
use Rattle.edits.specs.Kinds.{all_kinds, kind_name, kind_named, kind_number, kind_numbered}
use Rattle.edits.specs.declared.kinds.Kind.{Kind}
use Rattle.edits.specs.declared.kinds.Kind.TheVariants.{AddStation}

found : (p : Kind → Bool) (kind : Kind) → find p all_kinds ≡ Some kind → p kind ≡ true
found p kind e = subst (λ (o : Option Kind). MatchOption o (Unit {0}) (λ x. p x ≡ true)) e (find_passes p all_kinds)

pub numbered_is : (number : ℕ) (kind : Kind) → kind_numbered number ≡ Some kind → number ≡ kind_number kind
numbered_is number kind e = eqb-true number (kind_number kind) (found (λ k. number == kind_number k) kind e)

-- and each kind is that of its number and of its name
pub numbered_again : (kind : Kind) → kind_numbered (kind_number kind) ≡ Some kind
numbered_again AddStation = refl
numbered_again _ = refl

pub named_again : (kind : Kind) → kind_named (kind_name kind) ≡ Some kind
named_again AddStation = refl
named_again _ = refl
