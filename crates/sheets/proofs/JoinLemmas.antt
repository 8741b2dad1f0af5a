-- A text to which parts, lines and sections are added one after another.
use Rattle.std.proofs.Common.{◌≡◌, refl, ℕ, ◌≤◌, List, [], ◌∷◌, ◌++◌, length, arith, append_assoc, length-append}
use Rattle.std.specs.List.{flat_map}
use Rattle.std.proofs.lemmas.List.{append-nil}
use Rattle.std.proofs.lemmas.Grind.{flat_map-append}
use Rattle.sheets.specs.Sheets.{ended}

-- five parts
pub five_joined : (out a b c d e v w x y z : List ℕ) → v ≡ out ++ a → w ≡ v ++ b → x ≡ w ++ c → y ≡ x ++ d → z ≡ y ++ e
    → z ≡ out ++ (a ++ b ++ c ++ d ++ e)
five_joined out a b c d e v w x y z hv hw hx hy hz = rw (hz, hy, hx, hw, hv) (simp append_assoc)

-- four numbers, each behind its name, and the end
pub counts_joined : (out k a l b m c n d end v w x y z : List ℕ) → v ≡ out ++ (k ++ a) → w ≡ v ++ (l ++ b) → x ≡ w ++ (m ++ c) → y ≡ x ++ (n ++ d) → z ≡ y ++ end
    → z ≡ out ++ (k ++ a ++ l ++ b ++ m ++ c ++ n ++ d ++ end)
counts_joined out k a l b m c n d end v w x y z hv hw hx hy hz = rw (hz, hy, hx, hw, hv) (simp append_assoc)

-- four numbers, each behind its name, between an instant and a fifth
pub amounts_joined : (out at k a l b m c n d o e t u v w x y z : List ℕ) → t ≡ out ++ at → u ≡ t ++ (k ++ a) → v ≡ u ++ (l ++ b) → w ≡ v ++ (m ++ c)
    → x ≡ w ++ (n ++ d) → y ≡ x ++ o → z ≡ y ++ e → z ≡ out ++ (at ++ k ++ a ++ l ++ b ++ m ++ c ++ n ++ d ++ o ++ e)
amounts_joined out at k a l b m c n d o e t u v w x y z ht hu hv hw hx hy hz = rw (hz, hy, hx, hw, hv, hu, ht) (simp append_assoc)

-- four lines
pub four_lines : (out a b c d w x y z : List ℕ) → w ≡ out ++ ended a → x ≡ w ++ ended b → y ≡ x ++ ended c → z ≡ y ++ ended d
    → z ≡ out ++ flat_map ended (a ∷ b ∷ c ∷ d ∷ [])
four_lines out a b c d w x y z hw hx hy hz = rw (hz, hy, hx, hw) (simp (append_assoc, append-nil))

-- three sections and a line
sections : (a b c : List (List ℕ)) (d : List ℕ) → flat_map ended (a ++ b ++ c ++ d ∷ []) ≡ flat_map ended a ++ flat_map ended b ++ flat_map ended c ++ ended d
sections a b c d =
    rw (flat_map-append ended (a ++ b ++ c) (d ∷ []), flat_map-append ended (a ++ b) c, flat_map-append ended a b, append-nil (ended d)) refl

pub sections_joined : (out : List ℕ) (a b c : List (List ℕ)) (d w x y z : List ℕ) → w ≡ out ++ flat_map ended a → x ≡ w ++ flat_map ended b
    → y ≡ x ++ flat_map ended c → z ≡ y ++ ended d → z ≡ out ++ flat_map ended (a ++ b ++ c ++ d ∷ [])
sections_joined out a b c d w x y z hw hx hy hz = rw (hz, hy, hx, hw, sections a b c d) (simp append_assoc)

pub sections-few : (a b c : List (List ℕ)) (d : List ℕ) → length (flat_map ended a) ≤ 147 → length (flat_map ended b) ≤ 572 → length (flat_map ended c) ≤ 680
    → length (ended d) ≤ 271 → length (flat_map ended (a ++ b ++ c ++ d ∷ [])) ≤ 1700
sections-few a b c d first second third last =
    rw (sections a b c d)
    (omega (
      arith,
      first,
      second,
      third,
      last,
      length-append (flat_map ended a) (flat_map ended b),
      length-append (flat_map ended a ++ flat_map ended b) (flat_map ended c),
      length-append (flat_map ended a ++ flat_map ended b ++ flat_map ended c) (ended d),
    ))
