-- Reviews and decisions and their bytes, both ways.
use Rattle.std.proofs.Common.{◌≡◌, ℕ, ◌<◌, eqb, List, [], ◌∷◌, ◌++◌, Option, Some, None, refl, ap, subst, ◌∙◌, arith, FitsSigned, inl, inr}
use Rattle.std.specs.Prelude.{ℤ}
use Rattle.std.specs.Int.{w32}
use Rattle.std.proofs.lemmas.Bool.{eqb-true}
use Rattle.edits.specs.Decisions.{decision_number, decision_of}
use Rattle.edits.specs.declared.decisions.Decision.{Decision}
use Rattle.edits.specs.declared.decisions.Decision.TheVariants.{Approve, Rescind}
use Rattle.records.specs.Payloads.{day_number}
use Rattle.records.specs.Parsing.{◌>>=◌, both_at, byte_at, day_at, decision_at}
use Rattle.records.proofs.Fields.{IsBytes, bind_some, some_is, Takes, Reads, IsAny, both_reads, byte_takes, byte_again, day_reads}
use Rattle.records.proofs.CurveLemmas.{which}

-- the decision of a number has that number
numbered : (n : ℕ) (decision : Decision) → decision_of n ≡ Some decision → n ≡ decision_number decision
numbered n decision e =
    elim (which (eqb n 0) (Some Approve) _ (Some decision) e) [
      | inl h ↦ is n 0 Approve decision (eqb-true _ _ h.0) h.1 refl
      | inr h ↦ elim (which (eqb n 1) (Some Rescind) None (Some decision) h.1) [
        | inl i ↦ is n 1 Rescind decision (eqb-true _ _ i.0) i.1 refl
        | inr i ↦ absurd (let no : None ≡ Some decision = i.1 in cc)
      ]
    ]
  where
    is : (n k : ℕ) (d decision : Decision) → n ≡ k → Some d ≡ Some decision → k ≡ decision_number d → n ≡ decision_number decision
    is n k d decision e same number = e ∙ number ∙ ap decision_number (some_is d decision same)

decision_takes : (bytes : List ℕ) (decision : Decision) (rest : List ℕ) → IsBytes bytes → decision_at bytes ≡ Some (decision, rest) → Takes bytes (decision_number decision ∷ []) rest
unfolding decision_at
decision_takes bytes decision rest fits e =
    let a = bind_some (byte_at bytes) (λ number. decision_of number.0 >>= λ d. Some (d, number.1)) (decision, rest) e in
    let b = bind_some (decision_of a.0.0) (λ d. Some (d, a.0.1)) (decision, rest) a.2 in
    let t : Takes bytes (decision_number b.0 ∷ []) a.0.1 = subst (λ (n : ℕ). Takes bytes (n ∷ []) a.0.1) (numbered a.0.0 b.0 b.1) (byte_takes bytes a.0.0 a.0.1 fits a.1) in
    subst (λ (x : Decision × List ℕ). Takes bytes (decision_number x.0 ∷ []) x.1) (some_is (b.0, a.0.1) (decision, rest) b.2) t

decision_again : (decision : Decision) (rest : List ℕ) → decision_at (decision_number decision ∷ rest) ≡ Some (decision, rest)
unfolding decision_at
decision_again Approve rest = rw (byte_again 0 rest) refl
decision_again Rescind rest = rw (byte_again 1 rest) refl

decision_reads : Reads Decision decision_at (λ decision. decision_number decision ∷ []) IsAny
decision_reads = record { takes = decision_takes; again = λ decision rest fits. decision_again decision rest }

pub decision_byte : (decision : Decision) → decision_number decision < 256
decision_byte Approve = omega arith
decision_byte Rescind = omega arith

-- the days of a review
abbrev pub Reviewed : Type 0
Reviewed = ℤ × ℤ

abbrev pub reviewed_parts : List ℕ → Option (Reviewed × List ℕ)
reviewed_parts bytes = both_at day_at day_at bytes

abbrev pub reviewed_bytes : Reviewed → List ℕ
reviewed_bytes f = day_number f.0 ++ day_number f.1

abbrev pub FitsReviewed : Reviewed → Type 0
FitsReviewed f = FitsSigned w32 f.0 × FitsSigned w32 f.1

pub reviewed_reads : Reads Reviewed reviewed_parts reviewed_bytes FitsReviewed
reviewed_reads = both_reads ℤ ℤ day_at day_number (FitsSigned w32) day_at day_number (FitsSigned w32) day_reads day_reads

-- the days of a decision, and what is decided
abbrev pub Judged : Type 0
Judged = ℤ × (ℤ × Decision)

abbrev pub judged_parts : List ℕ → Option (Judged × List ℕ)
judged_parts bytes = both_at day_at (both_at day_at decision_at) bytes

abbrev pub judged_bytes : Judged → List ℕ
judged_bytes f = day_number f.0 ++ (day_number f.1.0 ++ decision_number f.1.1 ∷ [])

abbrev pub FitsJudged : Judged → Type 0
FitsJudged f = FitsSigned w32 f.0 × (FitsSigned w32 f.1.0 × IsAny f.1.1)

pub judged_reads : Reads Judged judged_parts judged_bytes FitsJudged
judged_reads =
    both_reads ℤ (ℤ × Decision) day_at day_number (FitsSigned w32) (both_at day_at decision_at) (λ p. day_number p.0 ++ decision_number p.1 ∷ []) (λ p. FitsSigned w32 p.0 × IsAny p.1) day_reads
    (both_reads ℤ Decision day_at day_number (FitsSigned w32) decision_at (λ decision. decision_number decision ∷ []) IsAny day_reads decision_reads)
