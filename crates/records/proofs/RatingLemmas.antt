-- Ratings and periods and their bytes, both ways.
use Rattle.std.proofs.Common.{◌≡◌, ℕ, zero, suc, ◌+◌, ◌*◌, ◌/◌, ◌^◌, ◌<◌, ◌≤◌, false, ltb, List, [], ◌++◌, length, take, drop, Option, Some, None, refl, sym, ap, ◌∙◌, arith, append_assoc, length-append, FitsSigned}
use Rattle.std.specs.Prelude.{ℤ, flat_map, IfSome}
use Rattle.std.specs.Int.{w32, w64, to_le_bytes, from_le_bytes, cast_signed}
use Rattle.std.specs.Simd.{first_chunks}
use Rattle.std.proofs.lemmas.Bool.{le-ltb}
use Rattle.std.proofs.lemmas.Int.{ints}
use Rattle.std.proofs.lemmas.List.{take_at, drop_at, take-append-drop, take_all, nil_from_length, length-take, length-drop}
use Rattle.fixed_units.specs.Quantities.{IsStamp}
use Rattle.rating_tables.specs.Table.{Row, IsRating}
use Rattle.ratings.specs.Spans.{Span}
use Rattle.records.specs.Payloads.{signed_number, point_bytes, table_bytes, end_bytes, period_bytes}
use Rattle.records.specs.Parsing.{both_at, number_at, signed_number_at, point_at, points_at, table_at, row_in, rows_in, end_at}
use Rattle.records.proofs.Fields.{IsBytes, Reads, both_reads, wide32, number_reads, signed_reads}
use Rattle.records.proofs.CurveLemmas.{FitsPoint, point_reads, points_take, no_points, next_points, length-curve}
use Rattle.records.proofs.OptionalLemmas.{FitsOptional, optional_reads}
use Rattle.records.proofs.ManyLemmas.{FitsCounted, counted_reads}

-- ---- tables

abbrev pub FitsTable : List Row → Type 0
FitsTable rows = FitsCounted FitsPoint rows

pub table_reads : Reads (List Row) table_at table_bytes FitsTable
unfolding table_at
table_reads = counted_reads point_at point_bytes FitsPoint point_reads

pub rating_fits : (rows : List Row) → IsRating rows → FitsTable rows
rating_fits rows rating =
    (omega (arith, rating.table.most), λ k d below. let row = rating.ranges k d below in (omega (arith, ints, row.stage), omega (arith, ints, row.discharge)))

-- a rating: its number and its table
abbrev pub Rating : Type 0
Rating = ℕ × List Row

abbrev pub rating_parts : List ℕ → Option (Rating × List ℕ)
rating_parts bytes = both_at (number_at w32) table_at bytes

abbrev pub rating_bytes : Rating → List ℕ
rating_bytes f = to_le_bytes w32 f.0 ++ table_bytes f.1

abbrev pub FitsRating : Rating → Type 0
FitsRating f = (f.0 < 2 ^ 32) × FitsTable f.1

pub rating_reads : Reads Rating rating_parts rating_bytes FitsRating
rating_reads =
    both_reads ℕ (List Row) (number_at w32) (to_le_bytes w32) (λ n. n < 2 ^ 32) table_at table_bytes FitsTable (number_reads w32 (2 ^ 32) wide32) table_reads

-- ---- rows that are lent

pub signed_front : (front rest : List ℕ) → length front ≡ 8 → signed_number_at (front ++ rest) ≡ Some (cast_signed w64 (from_le_bytes w64 front), rest)
unfolding signed_number_at
signed_front front rest len =
    let long : ltb (length (front ++ rest)) 8 ≡ false = le-ltb _ _ (omega (arith, length-append front rest)) in
    rw (long, take_at front rest 8 len, drop_at front rest 8 len) refl

-- the point at the front is the row that the first sixteen bytes are
point_front : (piece more : List ℕ) → length piece ≡ 16 → point_at (piece ++ more) ≡ Some (row_in piece, more)
unfolding point_at row_in
point_front piece more len =
    let parted : piece ++ more ≡ take 8 piece ++ (drop 8 piece ++ more) = ap (λ (t : List ℕ). t ++ more) (sym (take-append-drop 8 piece)) ∙ append_assoc (take 8 piece) (drop 8 piece) more in
    let front : length (take 8 piece) ≡ 8 = omega (arith, length-take 8 piece) in
    let back : length (drop 8 piece) ≡ 8 = omega (arith, length-drop 8 piece) in
    let whole : take 8 (drop 8 piece) ≡ drop 8 piece = take_all 8 (drop 8 piece) (omega arith) in
    rw (parted, whole, signed_front (take 8 piece) (drop 8 piece ++ more) front, signed_front (drop 8 piece) more back) refl

-- so many rows at the front are those that its pieces of sixteen bytes are
pub points_front : (count : ℕ) (front rest : List ℕ) → length front ≡ 16 * count → points_at count (front ++ rest) ≡ Some (rows_in (first_chunks 16 count front), rest)
points_front zero front rest len =
    let nothing : front ≡ [] = nil_from_length front len in
    ap (λ (t : List ℕ). points_at 0 (t ++ rest)) nothing ∙ no_points rest
points_front (suc count) front rest len =
    let parted : front ++ rest ≡ take 16 front ++ (drop 16 front ++ rest) = ap (λ (t : List ℕ). t ++ rest) (sym (take-append-drop 16 front)) ∙ append_assoc (take 16 front) (drop 16 front) rest in
    let first = point_front (take 16 front) (drop 16 front ++ rest) (omega (arith, length-take 16 front)) in
    let others = points_front count (drop 16 front) rest (omega (arith, length-drop 16 front)) in
    ap (points_at (suc count)) parted ∙ next_points count (take 16 front ++ (drop 16 front ++ rest)) ∙ rw (first, others) refl

-- and so are those that are lent
pub rows_lent : (count : ℕ) (bytes front rest : List ℕ) (pieces : List (List ℕ)) → length front ≡ 16 * count → bytes ≡ front ++ rest → pieces ≡ first_chunks 16 (length front / 16) front
    → Some (rows_in pieces, rest) ≡ points_at count bytes
rows_lent count bytes front rest pieces len parted are =
    let so_many : length front / 16 ≡ count = omega arith in
    let same : rows_in pieces ≡ rows_in (first_chunks 16 count front) = ap rows_in are ∙ ap (λ (n : ℕ). rows_in (first_chunks 16 n front)) so_many in
    ap (λ (rows : List Row). Some (rows, rest)) same ∙ sym (points_front count front rest len) ∙ ap (points_at count) (sym parted)

pub nothing_read : {A : Type 0} (read : Option A) → ((x : A) → read ≡ Some x → ⊥) → read ≡ None
nothing_read None h = refl
nothing_read (Some x) h = absurd (h x refl)

-- and there are none where the bytes are fewer
pub points_short : (count : ℕ) (bytes : List ℕ) → IsBytes bytes → length bytes < 16 * count → points_at count bytes ≡ None
points_short count bytes fits few =
    nothing_read (points_at count bytes)
    (λ x e.
    let t = points_take count bytes x.0 x.1 fits e in
    omega (arith, ap length t.0.parts, length-append (flat_map point_bytes x.0) x.1, length-curve x.0, t.1))

-- ---- periods

abbrev pub FitsEnd : Option ℤ → Type 0
FitsEnd until = FitsOptional (FitsSigned w64) until

end_reads : Reads (Option ℤ) end_at end_bytes FitsEnd
unfolding end_at
end_reads = optional_reads ℤ signed_number_at signed_number (FitsSigned w64) signed_reads

pub end_fits : (until : Option ℤ) → IfSome until IsStamp → FitsEnd until
end_fits None stamp = tt
end_fits (Some until) stamp = omega (arith, ints)

-- a period: the number of its rating, its start and its end
abbrev pub Period : Type 0
Period = ℕ × (ℤ × Option ℤ)

abbrev pub period_parts : List ℕ → Option (Period × List ℕ)
period_parts bytes = both_at (number_at w32) (both_at signed_number_at end_at) bytes

abbrev pub period_spelled : Period → List ℕ
period_spelled f = to_le_bytes w32 f.0 ++ (signed_number f.1.0 ++ end_bytes f.1.1)

abbrev pub FitsPeriod : Period → Type 0
FitsPeriod f = (f.0 < 2 ^ 32) × (FitsSigned w64 f.1.0 × FitsEnd f.1.1)

pub period_reads : Reads Period period_parts period_spelled FitsPeriod
period_reads =
    both_reads ℕ (ℤ × Option ℤ) (number_at w32) (to_le_bytes w32) (λ n. n < 2 ^ 32) (both_at signed_number_at end_at) (λ p. signed_number p.0 ++ end_bytes p.1) (λ p. FitsSigned w64 p.0 × FitsEnd p.1) (number_reads w32 (2 ^ 32) wide32)
    (both_reads ℤ (Option ℤ) signed_number_at signed_number (FitsSigned w64) end_at end_bytes FitsEnd signed_reads end_reads)

-- ---- lengths

pub length-table : (rows : List Row) → length (table_bytes rows) ≡ 4 + 16 * length rows
length-table rows = omega (arith, length-curve rows, length-append (to_le_bytes w32 (length rows)) (flat_map point_bytes rows))

end_within : (until : Option ℤ) → length (end_bytes until) ≤ 9
end_within None = omega arith
end_within (Some until) = omega arith

pub period_within : (p : Span) → length (period_bytes p) ≤ 21
period_within p =
    omega (arith, end_within p.until, length-append (signed_number p.from) (end_bytes p.until), length-append (to_le_bytes w32 p.rating) (signed_number p.from ++ end_bytes p.until))
