-- Measurements and estimates and their bytes, both ways.
use Rattle.std.proofs.Common.{◌≡◌, ℕ, ◌^◌, ◌<◌, eqb, List, [], ◌∷◌, ◌++◌, length, Option, Some, None, refl, ap, subst, ◌∙◌, arith, FitsSigned, inl, inr}
use Rattle.std.specs.Prelude.{ℤ}
use Rattle.std.specs.Int.{w32, w64, to_le_bytes}
use Rattle.std.proofs.lemmas.Bool.{eqb-true}
use Rattle.edits.specs.Grades.{grade_number, grade_of}
use Rattle.edits.specs.declared.measurements.Measurement.{Measurement}
use Rattle.edits.specs.declared.measurements.Grade.{Grade}
use Rattle.edits.specs.declared.measurements.Grade.TheVariants.{Excellent, Good, Fair, Poor}
use Rattle.records.specs.Payloads.{signed_number, day_number, measurement_bytes}
use Rattle.records.specs.Parsing.{◌>>=◌, both_at, byte_at, number_at, signed_number_at, day_at, grade_at}
use Rattle.records.proofs.Fields.{IsBytes, bind_some, some_is, Takes, Reads, IsAny, both_reads, wide32, byte_takes, byte_again, number_reads, signed_reads, day_reads}
use Rattle.records.proofs.CurveLemmas.{which}

-- the grade of a number has that number
numbered : (n : ℕ) (grade : Grade) → grade_of n ≡ Some grade → n ≡ grade_number grade
numbered n grade e =
    elim (which (eqb n 0) (Some Excellent) _ (Some grade) e) [
      | inl h ↦ is n 0 Excellent grade (eqb-true _ _ h.0) h.1 refl
      | inr h ↦ elim (which (eqb n 1) (Some Good) _ (Some grade) h.1) [
        | inl i ↦ is n 1 Good grade (eqb-true _ _ i.0) i.1 refl
        | inr i ↦ elim (which (eqb n 2) (Some Fair) _ (Some grade) i.1) [
          | inl j ↦ is n 2 Fair grade (eqb-true _ _ j.0) j.1 refl
          | inr j ↦ elim (which (eqb n 3) (Some Poor) None (Some grade) j.1) [
            | inl k ↦ is n 3 Poor grade (eqb-true _ _ k.0) k.1 refl
            | inr k ↦ absurd (let no : None ≡ Some grade = k.1 in cc)
          ]
        ]
      ]
    ]
  where
    is : (n k : ℕ) (g grade : Grade) → n ≡ k → Some g ≡ Some grade → k ≡ grade_number g → n ≡ grade_number grade
    is n k g grade e same number = e ∙ number ∙ ap grade_number (some_is g grade same)

grade_takes : (bytes : List ℕ) (grade : Grade) (rest : List ℕ) → IsBytes bytes → grade_at bytes ≡ Some (grade, rest) → Takes bytes (grade_number grade ∷ []) rest
unfolding grade_at
grade_takes bytes grade rest fits e =
    let a = bind_some (byte_at bytes) (λ number. grade_of number.0 >>= λ g. Some (g, number.1)) (grade, rest) e in
    let b = bind_some (grade_of a.0.0) (λ g. Some (g, a.0.1)) (grade, rest) a.2 in
    let t : Takes bytes (grade_number b.0 ∷ []) a.0.1 = subst (λ (n : ℕ). Takes bytes (n ∷ []) a.0.1) (numbered a.0.0 b.0 b.1) (byte_takes bytes a.0.0 a.0.1 fits a.1) in
    subst (λ (x : Grade × List ℕ). Takes bytes (grade_number x.0 ∷ []) x.1) (some_is (b.0, a.0.1) (grade, rest) b.2) t

grade_again : (grade : Grade) (rest : List ℕ) → grade_at (grade_number grade ∷ rest) ≡ Some (grade, rest)
unfolding grade_at
grade_again Excellent rest = rw (byte_again 0 rest) refl
grade_again Good rest = rw (byte_again 1 rest) refl
grade_again Fair rest = rw (byte_again 2 rest) refl
grade_again Poor rest = rw (byte_again 3 rest) refl

grade_reads : Reads Grade grade_at (λ grade. grade_number grade ∷ []) IsAny
grade_reads = record { takes = grade_takes; again = λ grade rest fits. grade_again grade rest }

pub grade_byte : (grade : Grade) → grade_number grade < 256
grade_byte Excellent = omega arith
grade_byte Good = omega arith
grade_byte Fair = omega arith
grade_byte Poor = omega arith

-- a discharge and a grade, those behind a gage height, and those behind an instant
abbrev Graded : Type 0
Graded = ℤ × Grade

abbrev graded_bytes : Graded → List ℕ
graded_bytes f = signed_number f.0 ++ grade_number f.1 ∷ []

abbrev FitsGraded : Graded → Type 0
FitsGraded f = FitsSigned w64 f.0 × IsAny f.1

abbrev Gaged : Type 0
Gaged = ℤ × Graded

abbrev gaged_bytes : Gaged → List ℕ
gaged_bytes f = signed_number f.0 ++ graded_bytes f.1

abbrev FitsGaged : Gaged → Type 0
FitsGaged f = FitsSigned w64 f.0 × FitsGraded f.1

abbrev Made : Type 0
Made = ℤ × Gaged

abbrev made_bytes : Made → List ℕ
made_bytes f = signed_number f.0 ++ gaged_bytes f.1

abbrev FitsMade : Made → Type 0
FitsMade f = FitsSigned w64 f.0 × FitsGaged f.1

-- a measurement: its number, its instant, its gage height, its discharge and its grade
abbrev pub Measured : Type 0
Measured = ℕ × Made

abbrev pub measured_parts : List ℕ → Option (Measured × List ℕ)
measured_parts bytes =
    both_at (number_at w32) (both_at signed_number_at (both_at signed_number_at (both_at signed_number_at grade_at))) bytes

abbrev pub measured_bytes : Measured → List ℕ
measured_bytes f = to_le_bytes w32 f.0 ++ made_bytes f.1

abbrev pub FitsMeasured : Measured → Type 0
FitsMeasured f = (f.0 < 2 ^ 32) × FitsMade f.1

pub measured_reads : Reads Measured measured_parts measured_bytes FitsMeasured
measured_reads =
    both_reads ℕ Made (number_at w32) (to_le_bytes w32) (λ n. n < 2 ^ 32) (both_at signed_number_at (both_at signed_number_at (both_at signed_number_at grade_at))) made_bytes FitsMade (number_reads w32 (2 ^ 32) wide32)
    (both_reads ℤ Gaged signed_number_at signed_number (FitsSigned w64) (both_at signed_number_at (both_at signed_number_at grade_at)) gaged_bytes FitsGaged signed_reads
    (both_reads ℤ Graded signed_number_at signed_number (FitsSigned w64) (both_at signed_number_at grade_at) graded_bytes FitsGraded signed_reads
    (both_reads ℤ Grade signed_number_at signed_number (FitsSigned w64) grade_at (λ grade. grade_number grade ∷ []) IsAny signed_reads grade_reads)))

pub length-measurement : (m : Measurement) → length (measurement_bytes m) ≡ 29
length-measurement m = refl

-- an estimate: its day and its discharge
abbrev pub Estimated : Type 0
Estimated = ℤ × ℤ

abbrev pub estimated_parts : List ℕ → Option (Estimated × List ℕ)
estimated_parts bytes = both_at day_at signed_number_at bytes

abbrev pub estimated_bytes : Estimated → List ℕ
estimated_bytes f = day_number f.0 ++ signed_number f.1

abbrev pub FitsEstimated : Estimated → Type 0
FitsEstimated f = FitsSigned w32 f.0 × FitsSigned w64 f.1

pub estimated_reads : Reads Estimated estimated_parts estimated_bytes FitsEstimated
estimated_reads = both_reads ℤ ℤ day_at day_number (FitsSigned w32) signed_number_at signed_number (FitsSigned w64) day_reads signed_reads
