-- What a disk has behind a record that was appended.
use Rattle.std.specs.Prelude.{◌≡◌, ℕ, zero, suc, ◌+◌, ◌≤◌, ◌<◌, List, [], ◌∷◌, ◌++◌, length, take, drop, Option, Some, None, IfSome}
use Rattle.std.proofs.Common.{arith, refl, ap, subst, ◌∙◌}
use Rattle.devices.specs.Disks.{IsOverwritten, overwritten}
use Rattle.journal.specs.Writing.{IsWritten}

-- bytes behind a gate and then the open gate itself are one piece
piece_by_piece : (gate : ℕ) (old bytes rest : List ℕ) → gate < length old
    → take gate (take (suc gate) old ++ bytes ++ rest) ++ (1 ∷ []) ++ drop (suc gate) (take (suc gate) old ++ bytes ++ rest)
    ≡ take gate old ++ (1 ∷ bytes) ++ rest
piece_by_piece zero [] bytes rest lt = absurd (omega arith)
piece_by_piece zero (x ∷ xs) bytes rest lt = refl
piece_by_piece (suc gate) [] bytes rest lt = absurd (omega arith)
piece_by_piece (suc gate) (x ∷ xs) bytes rest lt = ap (λ (l : List ℕ). x ∷ l) (piece_by_piece gate xs bytes rest (omega arith))

one_piece : (gate : ℕ) (old bytes : List ℕ) → gate < length old
    → overwritten (overwritten old (gate + 1) bytes) gate (1 ∷ []) ≡ overwritten old gate (1 ∷ bytes)
one_piece gate old bytes lt =
    let next : gate + 1 ≡ suc gate = omega arith in
    let behind : gate + 1 + length bytes ≡ gate + length (1 ∷ bytes) = omega arith in
    let rest = drop (gate + 1 + length bytes) old in
    ap (λ (n : ℕ). take gate (take n old ++ bytes ++ rest) ++ (1 ∷ []) ++ drop n (take n old ++ bytes ++ rest)) next
    ∙ piece_by_piece gate old bytes rest lt ∙ ap (λ (n : ℕ). take gate old ++ (1 ∷ bytes) ++ drop n old) behind

pub recorded : (before mid after : Option (List ℕ)) (gate : ℕ) (bytes : List ℕ) (first second : List ℕ → Type 0)
    → IfSome before (λ (old : List ℕ). gate + 1 ≤ length old) → IsWritten before (gate + 1) bytes mid first → IsWritten mid gate (1 ∷ []) after second
    → IsOverwritten before gate (1 ∷ bytes) after
recorded None mid after gate bytes first second long w v = subst (λ (o : Option (List ℕ)). IsWritten o gate (1 ∷ []) after second) w v
recorded (Some old) mid after gate bytes first second long w v =
    (subst (λ (o : Option (List ℕ)). IsWritten o gate (1 ∷ []) after second) w.0 v).0 ∙ ap Some (one_piece gate old bytes (omega arith))

pub closed : (before after : Option (List ℕ)) (gate : ℕ) (images : List ℕ → Type 0) → IsWritten before gate (0 ∷ []) after images
    → IsOverwritten before gate (0 ∷ []) after
closed None after gate images w = w
closed (Some old) after gate images w = w.0
