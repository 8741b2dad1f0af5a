-- Readings and their bytes, both ways, and readings that are lent.
use Rattle.std.proofs.Common.{◌≡◌, ℕ, zero, suc, ◌*◌, ◌/◌, ◌<◌, eqb, List, [], ◌∷◌, ◌++◌, length, take, drop, get_or, Option, Some, None, refl, sym, ap, subst, ◌∙◌, arith, append_assoc, length-append, FitsSigned, inl, inr}
use Rattle.std.specs.Prelude.{ℤ, All, IsSome, flat_map, slice_index}
use Rattle.std.specs.Int.{w64}
use Rattle.std.specs.Simd.{first_chunks}
use Rattle.std.proofs.Math.Seq.{drop-cons}
use Rattle.std.proofs.lemmas.Bool.{eqb-true}
use Rattle.std.proofs.lemmas.Int.{ints}
use Rattle.std.proofs.lemmas.List.{take-append-drop, get_or-drop, nil_from_length, length-take, length-drop}
use Rattle.std.proofs.lemmas.List.Concat.{flat_map-cons}
use Rattle.std.proofs.lemmas.List.Elements.{All-cons, All-nil, All-head, All-tail}
use Rattle.edits.specs.Lawful.{ArePutReadings}
use Rattle.fixed_units.specs.declared.readings.Flag.{Flag}
use Rattle.fixed_units.specs.declared.readings.Flag.TheVariants.{Usable, Erroneous, Affected}
use Rattle.fixed_units.specs.declared.readings.Reading.{Reading}
use Rattle.records.specs.Payloads.{signed_number, flag_number, reading_bytes}
use Rattle.records.specs.Parsing.{◌>>=◌, both_at, byte_at, signed_number_at, many_at, flag_of, flag_at, reading, reading_at, readings_at, number_in, reading_in, readings_in}
use Rattle.records.proofs.Fields.{IsBytes, bind_some, some_is, Takes, Reads, IsAny, both_reads, made_takes, made_again, byte_takes, byte_again, signed_reads}
use Rattle.records.proofs.CurveLemmas.{which}
use Rattle.records.proofs.ManyLemmas.{none_many, next_many, behind, many_take, counted_bytes, FitsCounted, counted_reads}
use Rattle.records.proofs.RatingLemmas.{signed_front, nothing_read}

-- ---- flags

-- the flag of a number has that number
numbered : (n : ℕ) (flag : Flag) → flag_of n ≡ Some flag → n ≡ flag_number flag
numbered n flag e =
    elim (which (eqb n 0) (Some Usable) _ (Some flag) e) [
      | inl h ↦ is n 0 Usable flag (eqb-true _ _ h.0) h.1 refl
      | inr h ↦ elim (which (eqb n 1) (Some Erroneous) _ (Some flag) h.1) [
        | inl i ↦ is n 1 Erroneous flag (eqb-true _ _ i.0) i.1 refl
        | inr i ↦ elim (which (eqb n 2) (Some Affected) None (Some flag) i.1) [
          | inl j ↦ is n 2 Affected flag (eqb-true _ _ j.0) j.1 refl
          | inr j ↦ absurd (let no : None ≡ Some flag = j.1 in cc)
        ]
      ]
    ]
  where
    is : (n k : ℕ) (f flag : Flag) → n ≡ k → Some f ≡ Some flag → k ≡ flag_number f → n ≡ flag_number flag
    is n k f flag e same number = e ∙ number ∙ ap flag_number (some_is f flag same)

again : (flag : Flag) → flag_of (flag_number flag) ≡ Some flag
again Usable = refl
again Erroneous = refl
again Affected = refl

flag_takes : (bytes : List ℕ) (flag : Flag) (rest : List ℕ) → IsBytes bytes → flag_at bytes ≡ Some (flag, rest) → Takes bytes (flag_number flag ∷ []) rest
unfolding flag_at
flag_takes bytes flag rest fits e =
    let a = bind_some (byte_at bytes) (λ number. flag_of number.0 >>= λ f. Some (f, number.1)) (flag, rest) e in
    let b = bind_some (flag_of a.0.0) (λ f. Some (f, a.0.1)) (flag, rest) a.2 in
    let t : Takes bytes (flag_number b.0 ∷ []) a.0.1 = subst (λ (n : ℕ). Takes bytes (n ∷ []) a.0.1) (numbered a.0.0 b.0 b.1) (byte_takes bytes a.0.0 a.0.1 fits a.1) in
    subst (λ (x : Flag × List ℕ). Takes bytes (flag_number x.0 ∷ []) x.1) (some_is (b.0, a.0.1) (flag, rest) b.2) t

flag_again : (flag : Flag) (rest : List ℕ) → flag_at (flag_number flag ∷ rest) ≡ Some (flag, rest)
unfolding flag_at
flag_again flag rest = rw (byte_again (flag_number flag) rest, again flag) refl

flag_reads : Reads Flag flag_at (λ flag. flag_number flag ∷ []) IsAny
flag_reads = record { takes = flag_takes; again = λ flag rest fits. flag_again flag rest }

-- ---- readings

-- two numbers and a flag: a reading, or a span that is flagged
abbrev pub Flagged : Type 0
Flagged = ℤ × (ℤ × Flag)

abbrev pub flagged_parts : List ℕ → Option (Flagged × List ℕ)
flagged_parts bytes = both_at signed_number_at (both_at signed_number_at flag_at) bytes

abbrev pub flagged_bytes : Flagged → List ℕ
flagged_bytes f = signed_number f.0 ++ (signed_number f.1.0 ++ flag_number f.1.1 ∷ [])

abbrev pub FitsFlagged : Flagged → Type 0
FitsFlagged f = FitsSigned w64 f.0 × (FitsSigned w64 f.1.0 × IsAny f.1.1)

pub flagged_reads : Reads Flagged flagged_parts flagged_bytes FitsFlagged
flagged_reads =
    both_reads ℤ (ℤ × Flag) signed_number_at signed_number (FitsSigned w64) (both_at signed_number_at flag_at) (λ p. signed_number p.0 ++ flag_number p.1 ∷ []) (λ p. FitsSigned w64 p.0 × IsAny p.1) signed_reads
    (both_reads ℤ Flag signed_number_at signed_number (FitsSigned w64) flag_at (λ flag. flag_number flag ∷ []) IsAny signed_reads flag_reads)

abbrev pub FitsReading : Reading → Type 0
FitsReading r = FitsSigned w64 r.at × (FitsSigned w64 r.raw × IsAny r.flag)

reading_takes : (bytes : List ℕ) (r : Reading) (rest : List ℕ) → IsBytes bytes → reading_at bytes ≡ Some (r, rest) → Takes bytes (reading_bytes r) rest
unfolding reading_at
reading_takes bytes r rest fits e =
    let m = made_takes Flagged Reading reading flagged_parts flagged_bytes FitsFlagged flagged_reads bytes r rest fits e in
    subst (λ (s : Reading). Takes bytes (reading_bytes s) rest) m.1 m.2

reading_again : (r : Reading) (rest : List ℕ) → FitsReading r → reading_at (reading_bytes r ++ rest) ≡ Some (r, rest)
unfolding reading_at
reading_again r rest fits =
    made_again Flagged Reading reading flagged_parts flagged_bytes FitsFlagged flagged_reads (r.at, (r.raw, r.flag)) rest fits

reading_reads : Reads Reading reading_at reading_bytes FitsReading
reading_reads = record { takes = reading_takes; again = reading_again }

abbrev pub readings_bytes : List Reading → List ℕ
readings_bytes readings = counted_bytes reading_bytes readings

abbrev pub FitsReadings : List Reading → Type 0
FitsReadings readings = FitsCounted FitsReading readings

pub readings_read : Reads (List Reading) readings_at readings_bytes FitsReadings
unfolding readings_at
readings_read = counted_reads reading_at reading_bytes FitsReading reading_reads

pub readings_fit : (readings : List Reading) → ArePutReadings readings → FitsReadings readings
readings_fit readings are =
    (omega (arith, are.most), λ k d below. let r = are.each k d below in (omega (arith, ints, r.stamp), (omega (arith, ints, r.stage), tt)))

pub length-readings : (readings : List Reading) → length (flat_map reading_bytes readings) ≡ 17 * length readings
length-readings [] = refl
length-readings (r ∷ rest) =
    omega (arith, length-readings rest, ap length (flat_map-cons reading_bytes r rest), length-append (reading_bytes r) (flat_map reading_bytes rest))

-- ---- readings that are lent

-- the last byte of a piece is a flag's number
abbrev pub IsFlagged : List ℕ → Type 0
IsFlagged piece = IsSome (flag_of (slice_index piece 16))

some_of : {A : Type 0} (o : Option A) → IsSome o → (x : A) × (o ≡ Some x)
some_of (Some x) is = (x, refl)
some_of None is = absurd cc

is_some : {A : Type 0} (o : Option A) (x : A) → o ≡ Some x → IsSome o
is_some (Some y) x e = refl
is_some None x e = absurd cc

-- seventeen bytes are eight, eight and one
parted : (piece more : List ℕ) → length piece ≡ 17 → piece ++ more ≡ take 8 piece ++ (take 8 (drop 8 piece) ++ (slice_index piece 16 ∷ more))
parted piece more len =
    let first : piece ≡ take 8 piece ++ drop 8 piece = sym (take-append-drop 8 piece) in
    let second : drop 8 piece ≡ take 8 (drop 8 piece) ++ drop 8 (drop 8 piece) = sym (take-append-drop 8 (drop 8 piece)) in
    let last : drop 8 (drop 8 piece) ≡ get_or (drop 8 piece) 8 0 ∷ drop 9 (drop 8 piece) = drop-cons (drop 8 piece) 8 0 (omega (arith, length-drop 8 piece)) in
    let nothing : drop 9 (drop 8 piece) ≡ [] = nil_from_length (drop 9 (drop 8 piece)) (omega (arith, length-drop 9 (drop 8 piece), length-drop 8 piece)) in
    let byte : get_or (drop 8 piece) 8 0 ≡ slice_index piece 16 = get_or-drop 8 piece 8 0 in
    let whole : piece ≡ take 8 piece ++ (take 8 (drop 8 piece) ++ (slice_index piece 16 ∷ [])) =
    first ∙ ap (λ (t : List ℕ). take 8 piece ++ t) (second ∙ ap (λ (t : List ℕ). take 8 (drop 8 piece) ++ t) (last ∙ rw (byte, nothing) refl)) in
    ap (λ (t : List ℕ). t ++ more) whole ∙ append_assoc (take 8 piece) (take 8 (drop 8 piece) ++ (slice_index piece 16 ∷ [])) more
    ∙ ap (λ (t : List ℕ). take 8 piece ++ t) (append_assoc (take 8 (drop 8 piece)) (slice_index piece 16 ∷ []) more)

-- the reading at the front is the one that the first seventeen bytes are, where the last of them is a flag's number
abbrev with_flag : List ℕ → List ℕ → Option Flag → Option (Reading × List ℕ)
with_flag piece more None = None
with_flag piece more (Some flag) =
    Some (record { at = number_in (take 8 piece); raw = number_in (take 8 (drop 8 piece)); flag = flag }, more)

reading_front : (piece more : List ℕ) (o : Option Flag) → length piece ≡ 17 → flag_of (slice_index piece 16) ≡ o → reading_at (piece ++ more) ≡ with_flag piece more o
unfolding reading_at flag_at
reading_front piece more None len e =
    let front : length (take 8 piece) ≡ 8 = omega (arith, length-take 8 piece) in
    let back : length (take 8 (drop 8 piece)) ≡ 8 = omega (arith, length-take 8 (drop 8 piece), length-drop 8 piece) in
    rw (parted piece more len, signed_front (take 8 piece) (take 8 (drop 8 piece) ++ (slice_index piece 16 ∷ more)) front, signed_front (take 8 (drop 8 piece)) (slice_index piece 16 ∷ more) back, byte_again (slice_index piece 16) more, e) refl
reading_front piece more (Some flag) len e =
    let front : length (take 8 piece) ≡ 8 = omega (arith, length-take 8 piece) in
    let back : length (take 8 (drop 8 piece)) ≡ 8 = omega (arith, length-take 8 (drop 8 piece), length-drop 8 piece) in
    rw (parted piece more len, signed_front (take 8 piece) (take 8 (drop 8 piece) ++ (slice_index piece 16 ∷ more)) front, signed_front (take 8 (drop 8 piece)) (slice_index piece 16 ∷ more) back, byte_again (slice_index piece 16) more, e) refl

first_reading : (piece more : List ℕ) → length piece ≡ 17 → IsFlagged piece → reading_at (piece ++ more) ≡ Some (reading_in piece, more)
unfolding reading_in
first_reading piece more len flagged =
    let flag = some_of (flag_of (slice_index piece 16)) flagged in
    rw flag.1 (reading_front piece more (Some flag.0) len flag.1)

first_flagged : (piece more : List ℕ) (o : Option Flag) (x : Reading × List ℕ) → length piece ≡ 17 → flag_of (slice_index piece 16) ≡ o → reading_at (piece ++ more) ≡ Some x → IsFlagged piece × (x.1 ≡ more)
first_flagged piece more None x len e some = absurd (let none = reading_front piece more None len e in cc)
first_flagged piece more (Some flag) x len e some =
    let here = reading_front piece more (Some flag) len e in
    let same = some_is (record { at = number_in (take 8 piece); raw = number_in (take 8 (drop 8 piece)); flag = flag }, more) x (sym here ∙ some) in
    (is_some (flag_of (slice_index piece 16)) flag e, sym (ap (λ (y : Reading × List ℕ). y.1) same))

-- the front of so many pieces as its first piece and the others
next_piece : (front rest : List ℕ) → front ++ rest ≡ take 17 front ++ (drop 17 front ++ rest)
next_piece front rest =
    ap (λ (t : List ℕ). t ++ rest) (sym (take-append-drop 17 front)) ∙ append_assoc (take 17 front) (drop 17 front) rest

readings_front : (count : ℕ) (front rest : List ℕ) → length front ≡ 17 * count → All IsFlagged (first_chunks 17 count front) → many_at reading_at count (front ++ rest) ≡ Some (readings_in (first_chunks 17 count front), rest)
readings_front zero front rest len flagged =
    let nothing : front ≡ [] = nil_from_length front len in
    ap (λ (t : List ℕ). many_at reading_at 0 (t ++ rest)) nothing ∙ none_many reading_at rest
readings_front (suc count) front rest len flagged =
    let pieces = first_chunks 17 count (drop 17 front) in
    let first = first_reading (take 17 front) (drop 17 front ++ rest) (omega (arith, length-take 17 front)) (All-head IsFlagged (take 17 front) pieces flagged) in
    let others = readings_front count (drop 17 front) rest (omega (arith, length-drop 17 front)) (All-tail IsFlagged (take 17 front) pieces flagged) in
    ap (many_at reading_at (suc count)) (next_piece front rest) ∙ next_many reading_at count (take 17 front ++ (drop 17 front ++ rest)) ∙ rw (first, others) refl

flagged_front : (count : ℕ) (front rest : List ℕ) (x : List Reading × List ℕ) → length front ≡ 17 * count → many_at reading_at count (front ++ rest) ≡ Some x → All IsFlagged (first_chunks 17 count front)
flagged_front zero front rest x len e = All-nil IsFlagged
flagged_front (suc count) front rest x len e =
    let read : (reading_at (take 17 front ++ (drop 17 front ++ rest)) >>= λ first. behind first.0 (many_at reading_at count first.1)) ≡ Some x =
    sym (ap (many_at reading_at (suc count)) (next_piece front rest) ∙ next_many reading_at count (take 17 front ++ (drop 17 front ++ rest))) ∙ e in
    let a = bind_some (reading_at (take 17 front ++ (drop 17 front ++ rest))) (λ first. behind first.0 (many_at reading_at count first.1)) x read in
    let b = bind_some (many_at reading_at count a.0.1) (λ others. Some (a.0.0 ∷ others.0, others.1)) x a.2 in
    let first = first_flagged (take 17 front) (drop 17 front ++ rest) (flag_of (slice_index (take 17 front) 16)) a.0 (omega (arith, length-take 17 front)) refl a.1 in
    let others = flagged_front count (drop 17 front) rest b.0 (omega (arith, length-drop 17 front)) (ap (many_at reading_at count) (sym first.1) ∙ b.1) in
    All-cons IsFlagged (take 17 front) (first_chunks 17 count (drop 17 front)) first.0 others

pieces_are : (count : ℕ) (front : List ℕ) (pieces : List (List ℕ)) → length front ≡ 17 * count → pieces ≡ first_chunks 17 (length front / 17) front → pieces ≡ first_chunks 17 count front
pieces_are count front pieces len are =
    let so_many : length front / 17 ≡ count = omega arith in
    are ∙ ap (λ (n : ℕ). first_chunks 17 n front) so_many

-- and so are those that are lent
pub readings_lent : (count : ℕ) (bytes front rest : List ℕ) (pieces : List (List ℕ)) → length front ≡ 17 * count → bytes ≡ front ++ rest → pieces ≡ first_chunks 17 (length front / 17) front → All IsFlagged pieces
    → Some (readings_in pieces, rest) ≡ many_at reading_at count bytes
readings_lent count bytes front rest pieces len whole are flagged =
    let same = pieces_are count front pieces len are in
    ap (λ (ps : List (List ℕ)). Some (readings_in ps, rest)) same ∙ sym (readings_front count front rest len (subst (All IsFlagged) same flagged)) ∙ ap (many_at reading_at count) (sym whole)

-- there are none where some last byte is no flag's number
pub readings_unflagged : (count : ℕ) (bytes front rest : List ℕ) (pieces : List (List ℕ)) → length front ≡ 17 * count → bytes ≡ front ++ rest → pieces ≡ first_chunks 17 (length front / 17) front → ¬ All IsFlagged pieces
    → None ≡ many_at reading_at count bytes
readings_unflagged count bytes front rest pieces len whole are wrong =
    sym (nothing_read (many_at reading_at count bytes)
    (λ x e. wrong (subst (All IsFlagged) (sym (pieces_are count front pieces len are)) (flagged_front count front rest x len (ap (many_at reading_at count) (sym whole) ∙ e)))))

-- nor where the bytes are fewer
pub readings_short : (count : ℕ) (bytes : List ℕ) → IsBytes bytes → length bytes < 17 * count → many_at reading_at count bytes ≡ None
readings_short count bytes fits few =
    nothing_read (many_at reading_at count bytes)
    (λ x e.
    let t = many_take reading_at reading_bytes FitsReading reading_reads count bytes x.0 x.1 fits e in
    omega (arith, ap length t.0.parts, length-append (flat_map reading_bytes x.0) x.1, length-readings x.0, t.1))
