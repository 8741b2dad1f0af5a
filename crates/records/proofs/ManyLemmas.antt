-- Values one behind another and their bytes, both ways.
use Rattle.std.proofs.Common.{◌≡◌, ℕ, zero, suc, ◌^◌, ◌<◌, List, [], ◌∷◌, ◌++◌, length, Option, Some, refl, sym, ap, subst, ◌∙◌, append_assoc}
use Rattle.std.specs.Prelude.{All, flat_map}
use Rattle.std.specs.Int.{w32, to_le_bytes}
use Rattle.std.proofs.lemmas.List.Concat.{flat_map-cons}
use Rattle.std.proofs.lemmas.List.Elements.{All-head, All-tail}
use Rattle.records.specs.Parsing.{◌>>=◌, number_at, many_at}
use Rattle.records.proofs.Fields.{IsBytes, bind_some, some_is, Takes, Takes-then, Reads, wide32, number_takes, number_again}

pub none_many : {A : Type 0} (read : List ℕ → Option (A × List ℕ)) (bytes : List ℕ) → many_at read 0 bytes ≡ Some ([], bytes)
unfolding many_at
none_many read bytes = refl

abbrev pub behind : {A : Type 0} → A → Option (List A × List ℕ) → Option (List A × List ℕ)
behind first read = read >>= λ others. Some (first ∷ others.0, others.1)

pub next_many : {A : Type 0} (read : List ℕ → Option (A × List ℕ)) (count : ℕ) (bytes : List ℕ) → many_at read (suc count) bytes ≡ (read bytes >>= λ first. behind first.0 (many_at read count first.1))
unfolding many_at
next_many read count bytes = refl

pub many_take : {A : Type 0} (read : List ℕ → Option (A × List ℕ)) (write : A → List ℕ) (Fits : A → Type 0) → Reads A read write Fits → (count : ℕ) (bytes : List ℕ) (xs : List A) (rest : List ℕ) → IsBytes bytes → many_at read count bytes ≡ Some (xs, rest)
    → Takes bytes (flat_map write xs) rest × (length xs ≡ count)
many_take {A} read write Fits reads zero bytes xs rest fits e =
    let same = some_is ([], bytes) (xs, rest) (sym (none_many read bytes) ∙ e) in
    subst (λ (x : List A × List ℕ). Takes bytes (flat_map write x.0) x.1 × (length x.0 ≡ 0)) same
    (record { parts = refl; rest_fits = fits }, refl)
many_take {A} read write Fits reads (suc count) bytes xs rest fits e =
    let a = bind_some (read bytes) (λ first. behind first.0 (many_at read count first.1)) (xs, rest) (sym (next_many read count bytes) ∙ e) in
    let b = bind_some (many_at read count a.0.1) (λ others. Some (a.0.0 ∷ others.0, others.1)) (xs, rest) a.2 in
    let first = reads.takes bytes a.0.0 a.0.1 fits a.1 in
    let others = many_take read write Fits reads count a.0.1 b.0.0 b.0.1 first.rest_fits b.1 in
    let both : Takes bytes (write a.0.0 ++ flat_map write b.0.0) b.0.1 = Takes-then bytes (write a.0.0) a.0.1 (flat_map write b.0.0) b.0.1 first others.0 in
    let made : List A × List ℕ = (a.0.0 ∷ b.0.0, b.0.1) in
    subst (λ (x : List A × List ℕ). Takes bytes (flat_map write x.0) x.1 × (length x.0 ≡ suc count)) (some_is made (xs, rest) b.2)
    (subst (λ (t : List ℕ). Takes bytes t b.0.1) (sym (flat_map-cons write a.0.0 b.0.0)) both, ap suc others.1)

pub many_again : {A : Type 0} (read : List ℕ → Option (A × List ℕ)) (write : A → List ℕ) (Fits : A → Type 0) → Reads A read write Fits → (xs : List A) (rest : List ℕ) → All Fits xs → many_at read (length xs) (flat_map write xs ++ rest) ≡ Some (xs, rest)
many_again read write Fits reads [] rest fits = none_many read rest
many_again read write Fits reads (x ∷ xs) rest fits =
    let first = reads.again x (flat_map write xs ++ rest) (All-head Fits x xs fits) in
    let others = many_again read write Fits reads xs rest (All-tail Fits x xs fits) in
    let spelled : flat_map write (x ∷ xs) ++ rest ≡ write x ++ (flat_map write xs ++ rest) = ap (λ (t : List ℕ). t ++ rest) (flat_map-cons write x xs) ∙ append_assoc (write x) (flat_map write xs) rest in
    ap (many_at read (length (x ∷ xs))) spelled ∙ next_many read (length xs) (write x ++ (flat_map write xs ++ rest)) ∙ rw (first, others) refl

-- a count of 32 bits before them
abbrev pub counted_at : {A : Type 0} → (List ℕ → Option (A × List ℕ)) → List ℕ → Option (List A × List ℕ)
counted_at read bytes = number_at w32 bytes >>= λ count. many_at read count.0 count.1

abbrev pub counted_bytes : {A : Type 0} → (A → List ℕ) → List A → List ℕ
counted_bytes write xs = to_le_bytes w32 (length xs) ++ flat_map write xs

abbrev pub FitsCounted : {A : Type 0} → (A → Type 0) → List A → Type 0
FitsCounted Fits xs = (length xs < 2 ^ 32) × All Fits xs

counted_takes : {A : Type 0} (read : List ℕ → Option (A × List ℕ)) (write : A → List ℕ) (Fits : A → Type 0) → Reads A read write Fits → (bytes : List ℕ) (xs : List A) (rest : List ℕ) → IsBytes bytes → counted_at read bytes ≡ Some (xs, rest)
    → Takes bytes (counted_bytes write xs) rest
counted_takes read write Fits reads bytes xs rest fits e =
    let a = bind_some (number_at w32 bytes) (λ count. many_at read count.0 count.1) (xs, rest) e in
    let t = number_takes w32 (2 ^ 32) wide32 bytes a.0.0 a.0.1 fits a.1 in
    let u = many_take read write Fits reads a.0.0 a.0.1 xs rest t.0.rest_fits a.2 in
    let both : Takes bytes (to_le_bytes w32 a.0.0 ++ flat_map write xs) rest = Takes-then bytes (to_le_bytes w32 a.0.0) a.0.1 (flat_map write xs) rest t.0 u.0 in
    subst (λ (k : ℕ). Takes bytes (to_le_bytes w32 k ++ flat_map write xs) rest) (sym u.1) both

counted_again : {A : Type 0} (read : List ℕ → Option (A × List ℕ)) (write : A → List ℕ) (Fits : A → Type 0) → Reads A read write Fits → (xs : List A) (rest : List ℕ) → FitsCounted Fits xs → counted_at read (counted_bytes write xs ++ rest) ≡ Some (xs, rest)
counted_again read write Fits reads xs rest fits =
    rw (append_assoc (to_le_bytes w32 (length xs)) (flat_map write xs) rest, number_again w32 (2 ^ 32) wide32 (length xs) (flat_map write xs ++ rest) fits.0) (many_again read write Fits reads xs rest fits.1)

pub counted_reads : {A : Type 0} (read : List ℕ → Option (A × List ℕ)) (write : A → List ℕ) (Fits : A → Type 0) → Reads A read write Fits → Reads (List A) (counted_at read) (counted_bytes write) (FitsCounted Fits)
counted_reads read write Fits reads =
    record { takes = λ bytes xs rest fits e. counted_takes read write Fits reads bytes xs rest fits e; again = λ xs rest fits. counted_again read write Fits reads xs rest fits }
