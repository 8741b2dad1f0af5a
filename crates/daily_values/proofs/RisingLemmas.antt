-- Readings that rise: from each pair of neighbours to all.
use Rattle.std.proofs.Common.{◌≡◌, ℕ, zero, suc, ◌-◌, ◌<◌, ◌≤◌, List, [], ◌∷◌, ◌∙◌, length, take, drop, get_or, ◌<ℤ◌, arith}
use Rattle.std.specs.Prelude.{All}
use Rattle.std.proofs.lemmas.Int.{ints}
use Rattle.std.proofs.lemmas.List.Kept.{AllPairs-cons}
use Rattle.fixed_units.specs.declared.readings.Reading.{Reading}
use Rattle.readings.specs.Readings.{IsRising}
use Rattle.std.proofs.lemmas.List.{take_all}

-- a list of two or more, by its first pair, and what stands behind the first
pair-is : {X : Type 0} (rest : List X) (r s : X) → 2 ≤ length rest → r ≡ get_or rest 0 r → s ≡ get_or rest 1 s → rest ≡ r ∷ s ∷ drop 2 rest
pair-is [] r s h e f = absurd (omega arith)
pair-is (x ∷ []) r s h e f = absurd (omega arith)
pair-is (x ∷ y ∷ rest) r s h e f = cc

behind-is : {X : Type 0} (rest : List X) (r s : X) → 2 ≤ length rest → s ≡ get_or rest 1 s → take (length rest - 1) (drop 1 rest) ≡ s ∷ drop 2 rest
behind-is [] r s h f = absurd (omega arith)
behind-is (x ∷ []) r s h f = absurd (omega arith)
behind-is (x ∷ y ∷ rest) r s h f =
    let whole : take (length (x ∷ y ∷ rest) - 1) (y ∷ rest) ≡ y ∷ rest = take_all (length (x ∷ y ∷ rest) - 1) (y ∷ rest) (omega arith) in
    whole ∙ cc

-- a reading before the first of others that rise is before all of them
before-all : (r s : Reading) (behind : List Reading) → r.at <ℤ s.at → IsRising (s ∷ behind) → All (λ t. r.at <ℤ t.at) (s ∷ behind)
before-all r s behind h rising = λ k d p. at k d p
  where
    at : (k : ℕ) (d : Reading) → k < length (s ∷ behind) → r.at <ℤ (get_or (s ∷ behind) k d).at
    at zero d p = h
    at (suc k) d p = let later = rising 0 (suc k) d (omega arith) p in omega (arith, ints, h, later)

rising-add : (r s : Reading) (behind : List Reading) → r.at <ℤ s.at → IsRising (s ∷ behind) → IsRising (r ∷ s ∷ behind)
rising-add r s behind h rising = AllPairs-cons (λ (x y : Reading). x.at <ℤ y.at) r (s ∷ behind) (before-all r s behind h rising) rising

pub rising-from_behind : (rest : List Reading) (r s : Reading) → 2 ≤ length rest → r ≡ get_or rest 0 r → s ≡ get_or rest 1 s → r.at <ℤ s.at → IsRising (take (length rest - 1) (drop 1 rest)) → IsRising rest
rising-from_behind rest r s h e f less rising =
    rw (pair-is rest r s h e f) (rising-add r s (drop 2 rest) less (rw (behind-is rest r s h f) at rising))
