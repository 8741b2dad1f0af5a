-- The lines of a trial's text, one behind another.
use Rattle.std.proofs.Common.{◌≡◌, ℕ, List, ◌++◌, ap, subst, ◌∙◌, append_assoc}
use Rattle.trial.specs.Figures.{figure_line}

joined : (x y z a b : List ℕ) → y ≡ x ++ a → z ≡ y ++ b → z ≡ x ++ (a ++ b)
joined x y z a b e f = f ∙ ap (λ (l : List ℕ). l ++ b) e ∙ append_assoc x a b

pub six_lines : (t0 t1 t2 t3 t4 t5 t6 a b c d e f : List ℕ) → t1 ≡ t0 ++ a → t2 ≡ t1 ++ b → t3 ≡ t2 ++ c → t4 ≡ t3 ++ d → t5 ≡ t4 ++ e → t6 ≡ t5 ++ f
    → t6 ≡ t0 ++ (a ++ (b ++ (c ++ (d ++ (e ++ f)))))
six_lines t0 t1 t2 t3 t4 t5 t6 a b c d e f first second third fourth fifth sixth =
    joined t0 t1 t6 a _ first (joined t1 t2 t6 b _ second (joined t2 t3 t6 c _ third (joined t3 t4 t6 d _ fourth (joined t4 t5 t6 e f fifth sixth))))

pub line_is : (before after name : List ℕ) (told figure : ℕ) → told ≡ figure → after ≡ before ++ figure_line name told → after ≡ before ++ figure_line name figure
line_is before after name told figure e f = subst (λ (n : ℕ). after ≡ before ++ figure_line name n) e f
