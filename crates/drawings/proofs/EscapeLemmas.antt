-- Escaped names.
use Rattle.std.proofs.Common.{◌≡◌, refl, ◌∙◌, ℕ, Bool, true, false, ◌==◌, cond, List, [], ◌∷◌, codes}
use Rattle.std.specs.List.{list_all}
use Rattle.std.proofs.lemmas.List.Folds.{list_all-append}
use Rattle.drawings.specs.Escapes.{escape, escaped, is_plain}

-- whatever the tests of a byte answer, what is written for it is plain
chosen : (amp lt gt quot apos : Bool) (b : ℕ) → (b == 60) ≡ lt → (b == 62) ≡ gt → (b == 34) ≡ quot → (b == 39) ≡ apos
    → list_all is_plain (cond amp (codes "&amp;") (cond lt (codes "&lt;") (cond gt (codes "&gt;")
    (cond quot (codes "&quot;") (cond apos (codes "&#39;") (b ∷ [])))))) ≡ true
chosen true lt gt quot apos b l g q a = refl
chosen false true gt quot apos b l g q a = refl
chosen false false true quot apos b l g q a = refl
chosen false false false true apos b l g q a = refl
chosen false false false false true b l g q a = refl
chosen false false false false false b l g q a = rw (l, g, q, a) refl

escape_plain : (b : ℕ) → list_all is_plain (escape b) ≡ true
escape_plain b = chosen (b == 38) (b == 60) (b == 62) (b == 34) (b == 39) b refl refl refl refl

-- an escaped name is plain
pub escaped_plain : (name : List ℕ) → list_all is_plain (escaped name) ≡ true
escaped_plain [] = refl
escaped_plain (b ∷ name) =
    list_all-append is_plain (escape b) (escaped name) ∙ rw (escape_plain b, escaped_plain name) refl
