-- Texts that were added one behind another.
use Rattle.std.proofs.Common.{◌≡◌, ◌==◌, ℕ, false, List, [], ◌∷◌, ◌++◌, length, codes, refl, ap, ◌∙◌}
use Rattle.std.proofs.lemmas.List.{append_assoc}
use Rattle.json.specs.Print.{quoted}
use Rattle.ledger.specs.Requests.{comment_member}

pub joined : (out a b s x : List ℕ) → a ≡ out ++ s → b ≡ a ++ x → b ≡ out ++ (s ++ x)
joined out a b s x e f = f ∙ ap (λ (l : List ℕ). l ++ x) e ∙ append_assoc out s x

pub three_joined : (out a b c w x y : List ℕ) → a ≡ out ++ w → b ≡ a ++ x → c ≡ b ++ y → c ≡ out ++ (w ++ x ++ y)
three_joined out a b c w x y e f g = joined out b c (w ++ x) y (joined out a b w x e f) g

pub four_joined : (out a b c d w x y z : List ℕ) → a ≡ out ++ w → b ≡ a ++ x → c ≡ b ++ y → d ≡ c ++ z → d ≡ out ++ (w ++ x ++ y ++ z)
four_joined out a b c d w x y z e f g h = joined out c d (w ++ x ++ y) z (three_joined out a b c w x y e f g) h

pub five_joined : (out a b c d e v w x y z : List ℕ) → a ≡ out ++ v → b ≡ a ++ w → c ≡ b ++ x → d ≡ c ++ y → e ≡ d ++ z → e ≡ out ++ (v ++ w ++ x ++ y ++ z)
five_joined out a b c d e v w x y z h i j k l = joined out d e (v ++ w ++ x ++ y) z (four_joined out a b c d v w x y h i j k) l

-- a comment that is not empty has its member
pub commented : (comment : List ℕ) → (length comment == 0) ≡ false → codes ",\"comment\":" ++ quoted comment ≡ comment_member comment
commented [] some = absurd cc
commented (letter ∷ letters) some = refl
