-- The local time that a text writes, and the stamp that it is by a zone.
use Rattle.std.specs.Prelude.{◌≡◌, ◌≤ℤ◌, ◌-ℤ◌, ◌*ℤ◌, ◌+ℤ◌, ℕ, ℤ, pos, neg_ℤ, List, length, take, None, Some, cond}
use Rattle.std.proofs.Common.{arith, refl, ap, sym, ◌∙◌, w64, FitsSigned, to_z, of_z, eq-eqb}
use Rattle.std.proofs.lemmas.Int.{ints, to_z-of_z}
use Rattle.civil_days.specs.Spelling.{day_of_text, moment_of}
use Rattle.rdb_records.specs.Times.{clock_behind, local_time}

-- a day and a second of it are the local time of their text
pub local_from : (text : List ℕ) (day : ℤ) (second : ℕ) → length text ≡ 16 → Some day ≡ day_of_text (take 10 text) → Some second ≡ clock_behind text
    → Some (day *ℤ pos 86_400 +ℤ pos second) ≡ local_time text
local_from text day second len date clock =
    ap (λ d. moment_of d (Some second)) date ∙ ap (λ s. moment_of (day_of_text (take 10 text)) s) clock
    ∙ sym (ap (λ t. cond t (moment_of (day_of_text (take 10 text)) (clock_behind text)) None) (eq-eqb (length text) 16 len))

-- what the code computes of a local time and of the hours of its zone
pub moved_is : (local hours : ℤ) → neg_ℤ (pos 10_000_000_000) ≤ℤ local → local ≤ℤ pos 10_000_000_000 → neg_ℤ (pos 10) ≤ℤ hours → hours ≤ℤ pos 0
    → to_z w64 (of_z w64 (to_z w64 (of_z w64 local) -ℤ to_z w64 (of_z w64 (to_z w64 (of_z w64 hours) *ℤ pos 3600)))) ≡ local -ℤ hours *ℤ pos 3600
moved_is local hours low high west east =
    let local_fits : FitsSigned w64 local = omega (arith, ints) in
    let hours_fits : FitsSigned w64 hours = omega (arith, ints) in
    let product_fits : FitsSigned w64 (hours *ℤ pos 3600) = omega (arith, ints) in
    let all_fits : FitsSigned w64 (local -ℤ hours *ℤ pos 3600) = omega (arith, ints) in
    rw (
      to_z-of_z w64 local local_fits,
      to_z-of_z w64 hours hours_fits,
      to_z-of_z w64 (hours *ℤ pos 3600) product_fits,
      to_z-of_z w64 (local -ℤ hours *ℤ pos 3600) all_fits,
    ) refl

-- the hours of a zone, handed on
pub hours_is : (hours : ℤ) → neg_ℤ (pos 10) ≤ℤ hours → hours ≤ℤ pos 0 → to_z w64 (of_z w64 hours) ≡ hours
hours_is hours west east =
    let fits : FitsSigned w64 hours = omega (arith, ints) in
    to_z-of_z w64 hours fits
