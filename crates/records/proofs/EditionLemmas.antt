-- Editions and their bytes, both ways.
use Rattle.std.proofs.Common.{ℕ, ◌^◌, ◌<◌, ◌≤◌, List, ◌++◌, length, Option, Some, None, arith, FitsSigned}
use Rattle.std.specs.Prelude.{ℤ, IfSome}
use Rattle.std.specs.Int.{w32, to_le_bytes}
use Rattle.editions.specs.Covers.{IsLeastCover}
use Rattle.records.specs.Payloads.{day_number, least_bytes}
use Rattle.records.specs.Parsing.{both_at, number_at, day_at, least_at}
use Rattle.records.proofs.Fields.{Reads, both_reads, wide32, number_reads, day_reads}
use Rattle.records.proofs.OptionalLemmas.{FitsOptional, optional_reads}

abbrev FitsLeast : Option ℕ → Type 0
FitsLeast least = FitsOptional (λ n. n < 2 ^ 32) least

least_reads : Reads (Option ℕ) least_at least_bytes FitsLeast
unfolding least_at
least_reads = optional_reads ℕ (number_at w32) (to_le_bytes w32) (λ n. n < 2 ^ 32) (number_reads w32 (2 ^ 32) wide32)

pub least_fits : (least : Option ℕ) → IfSome least IsLeastCover → FitsLeast least
least_fits None h = tt
least_fits (Some minutes) h = omega (arith, h.greatest)

abbrev pub Edition : Type 0
Edition = ℤ × Option ℕ

abbrev pub edition_parts : List ℕ → Option (Edition × List ℕ)
edition_parts bytes = both_at day_at least_at bytes

abbrev pub edition_bytes : Edition → List ℕ
edition_bytes f = day_number f.0 ++ least_bytes f.1

abbrev pub FitsEdition : Edition → Type 0
FitsEdition f = FitsSigned w32 f.0 × FitsLeast f.1

pub edition_reads : Reads Edition edition_parts edition_bytes FitsEdition
edition_reads = both_reads ℤ (Option ℕ) day_at day_number (FitsSigned w32) least_at least_bytes FitsLeast day_reads least_reads

pub least_within : (least : Option ℕ) → length (least_bytes least) ≤ 5
least_within None = omega arith
least_within (Some minutes) = omega arith
