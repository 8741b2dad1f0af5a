-- A text to which parts are added one after another.
use Rattle.std.proofs.Common.{◌≡◌, refl, ℕ, List, ◌++◌, append_assoc}

pub four_joined : (out a b c d w x y z : List ℕ) → w ≡ out ++ a → x ≡ w ++ b → y ≡ x ++ c → z ≡ y ++ d → z ≡ out ++ (a ++ (b ++ (c ++ d)))
four_joined out a b c d w x y z hw hx hy hz = rw (hz, hy, hx, hw) (simp append_assoc)

-- two parts between a start and an end
pub both_between : (out s a b e w x y z : List ℕ) → w ≡ out ++ s → x ≡ w ++ a → y ≡ x ++ b → z ≡ y ++ e → z ≡ out ++ (s ++ ((a ++ b) ++ e))
both_between out s a b e w x y z hw hx hy hz = rw (hz, hy, hx, hw) (simp append_assoc)

pub five_joined : (out a b c d e v w x y z : List ℕ) → v ≡ out ++ a → w ≡ v ++ b → x ≡ w ++ c → y ≡ x ++ d → z ≡ y ++ e
    → z ≡ out ++ (a ++ (b ++ (c ++ (d ++ e))))
five_joined out a b c d e v w x y z hv hw hx hy hz = rw (hz, hy, hx, hw, hv) (simp append_assoc)
