-- What may lack and its bytes, both ways: a mark says whether it is there.
use Rattle.std.proofs.Common.{◌≡◌, ℕ, Bool, true, false, cond, List, [], ◌∷◌, ◌++◌, Option, Some, None, refl, subst, arith, ◌<◌}
use Rattle.std.specs.Prelude.{All}
use Rattle.std.proofs.lemmas.List.Elements.{All-cons, All-nil}
use Rattle.records.specs.Payloads.{mark_number, optional_bytes}
use Rattle.records.specs.Parsing.{made_at, mark_at, optional_at}
use Rattle.records.proofs.Fields.{IsBytes, bind_some, some_is, Takes, Takes-then, Reads, made_takes, made_again}
use Rattle.records.proofs.CurveLemmas.{mark_reads, mark_again}

-- it fits where it is there
abbrev pub FitsOptional : {A : Type 0} → (A → Type 0) → Option A → Type 0
FitsOptional Fits None = Unit {0}
FitsOptional Fits (Some x) = Fits x

module _ (A : Type 0) (read : List ℕ → Option (A × List ℕ)) (bytes_of : A → List ℕ) (Fits : A → Type 0) (reads : Reads A read bytes_of Fits) where
  optional_step : (bytes : List ℕ) (there : Bool) (behind : List ℕ) (o : Option A) (rest : List ℕ) → Takes bytes (mark_number there ∷ []) behind
      → cond there (made_at Some read behind) (Some (None, behind)) ≡ Some (o, rest) → Takes bytes (optional_bytes bytes_of o) rest
  optional_step bytes true behind o rest t e =
      let m = made_takes A (Option A) (λ x. Some x) read bytes_of Fits reads behind o rest t.rest_fits e in
      let both : Takes bytes (optional_bytes bytes_of (Some m.0)) rest = Takes-then bytes (mark_number true ∷ []) behind (bytes_of m.0) rest t m.2 in
      subst (λ (x : Option A). Takes bytes (optional_bytes bytes_of x) rest) m.1 both
  optional_step bytes false behind o rest t e =
      subst (λ (x : Option A × List ℕ). Takes bytes (optional_bytes bytes_of x.0) x.1) (some_is (None, behind) (o, rest) e) t

  optional_takes : (bytes : List ℕ) (o : Option A) (rest : List ℕ) → IsBytes bytes → optional_at read bytes ≡ Some (o, rest) → Takes bytes (optional_bytes bytes_of o) rest
  optional_takes bytes o rest fits e =
      let a = bind_some (mark_at bytes) (λ there. cond there.0 (made_at Some read there.1) (Some (None, there.1))) (o, rest) e in
      optional_step bytes a.0.0 a.0.1 o rest (mark_reads.takes bytes a.0.0 a.0.1 fits a.1) a.2

  optional_again : (o : Option A) (rest : List ℕ) → FitsOptional Fits o → optional_at read (optional_bytes bytes_of o ++ rest) ≡ Some (o, rest)
  optional_again None rest fits = rw (mark_again false rest) refl
  optional_again (Some x) rest fits = rw (mark_again true (bytes_of x ++ rest)) (made_again A (Option A) (λ y. Some y) read bytes_of Fits reads x rest fits)

  pub optional_reads : Reads (Option A) (λ bytes. optional_at read bytes) (λ o. optional_bytes bytes_of o) (λ o. FitsOptional Fits o)
  optional_reads = record { takes = optional_takes; again = optional_again }

-- its bytes are bytes
pub optional_is_bytes : {A : Type 0} (bytes_of : A → List ℕ) → ((x : A) → All (λ b. b < 256) (bytes_of x)) → (o : Option A) → All (λ b. b < 256) (optional_bytes bytes_of o)
optional_is_bytes bytes_of each None = All-cons (λ b. b < 256) 0 [] (omega arith) (All-nil (λ b. b < 256))
optional_is_bytes bytes_of each (Some x) = All-cons (λ b. b < 256) 1 (bytes_of x) (omega arith) (each x)
