-- Curves and entries of series and their bytes, both ways.
use Rattle.std.proofs.Common.{◌≡◌, ℕ, suc, ◌+◌, ◌-◌, ◌*◌, ◌<◌, ◌≤◌, Bool, true, false, cond, eqb, List, [], ◌∷◌, ◌++◌, length, Option, Some, None, refl, sym, ap, subst, ◌∙◌, arith, append_assoc, length-append, FitsSigned, inl, inr}
use Rattle.std.specs.Prelude.{ℤ, All, flat_map, nat_le, ◌⊎◌}
use Rattle.std.specs.Int.{w64}
use Rattle.std.proofs.lemmas.Bool.{eqb-true}
use Rattle.std.proofs.lemmas.Bool.Decides.{nat_tests}
use Rattle.std.proofs.lemmas.Int.{ints}
use Rattle.std.proofs.lemmas.List.{append-nil}
use Rattle.std.proofs.lemmas.List.Concat.{flat_map-cons}
use Rattle.edits.specs.Lawful.{IsPutCurve}
use Rattle.records.specs.Payloads.{signed_number, point_bytes, curve_bytes, mark_number, entry_bytes}
use Rattle.records.specs.Parsing.{◌>>=◌, both_at, byte_at, signed_number_at, point_at, points_at, curve_at, mark_at, entry_at}
use Rattle.records.proofs.Fields.{IsBytes, bind_some, some_is, Takes, Takes-then, Reads, IsAny, both_reads, byte_takes, byte_again, signed_reads}
use Rattle.records.proofs.ManyLemmas.{none_many, behind, next_many, many_take, many_again}

-- which way a test went
pub which : {A : Type 0} (b : Bool) (x y z : A) → cond b x y ≡ z → ((b ≡ true) × (x ≡ z)) ⊎ ((b ≡ false) × (y ≡ z))
which true x y z e = inl (refl, e)
which false x y z e = inr (refl, e)

-- ---- points

abbrev pub FitsPoint : ℤ × ℤ → Type 0
FitsPoint p = FitsSigned w64 p.0 × FitsSigned w64 p.1

pub point_reads : Reads (ℤ × ℤ) point_at point_bytes FitsPoint
unfolding point_at
point_reads = both_reads ℤ ℤ signed_number_at signed_number (FitsSigned w64) signed_number_at signed_number (FitsSigned w64) signed_reads signed_reads

pub no_points : (bytes : List ℕ) → points_at 0 bytes ≡ Some ([], bytes)
no_points bytes = none_many point_at bytes

pub next_points : (count : ℕ) (bytes : List ℕ) → points_at (suc count) bytes ≡ (point_at bytes >>= λ point. behind point.0 (points_at count point.1))
next_points count bytes = next_many point_at count bytes

pub points_take : (count : ℕ) (bytes : List ℕ) (points : List (ℤ × ℤ)) (rest : List ℕ) → IsBytes bytes → points_at count bytes ≡ Some (points, rest) → Takes bytes (flat_map point_bytes points) rest × (length points ≡ count)
points_take count bytes points rest fits e = many_take point_at point_bytes FitsPoint point_reads count bytes points rest fits e

points_again : (points : List (ℤ × ℤ)) (rest : List ℕ) → All FitsPoint points → points_at (length points) (flat_map point_bytes points ++ rest) ≡ Some (points, rest)
points_again points rest fits = many_again point_at point_bytes FitsPoint point_reads points rest fits

-- ---- curves

abbrev pub FitsCurve : List (ℤ × ℤ) → Type 0
FitsCurve points = (length points ≤ 3) × All FitsPoint points

curve_takes : (bytes : List ℕ) (points : List (ℤ × ℤ)) (rest : List ℕ) → IsBytes bytes → curve_at bytes ≡ Some (points, rest) → Takes bytes (curve_bytes points) rest
unfolding curve_at
curve_takes bytes points rest fits e =
    let a = bind_some (byte_at bytes) (λ count. cond (nat_le count.0 3) (points_at count.0 count.1) None) (points, rest) e in
    let t = byte_takes bytes a.0.0 a.0.1 fits a.1 in
    elim (which (nat_le a.0.0 3) (points_at a.0.0 a.0.1) None _ a.2) [
      | inl h ↦
          let u = points_take a.0.0 a.0.1 points rest t.rest_fits h.1 in
          let both : Takes bytes (a.0.0 ∷ flat_map point_bytes points) rest = Takes-then bytes (a.0.0 ∷ []) a.0.1 (flat_map point_bytes points) rest t u.0 in
          subst (λ (k : ℕ). Takes bytes (k ∷ flat_map point_bytes points) rest) (sym u.1) both
      | inr h ↦ absurd (let no : None ≡ Some (points, rest) = h.1 in cc)
    ]

few_points : (count : ℕ) → count ≤ 3 → nat_le count 3 ≡ true
few_points count few = grind (arith, nat_tests)

curve_again : (points : List (ℤ × ℤ)) (rest : List ℕ) → FitsCurve points → curve_at (curve_bytes points ++ rest) ≡ Some (points, rest)
unfolding curve_at
curve_again points rest fits =
    rw (byte_again (length points) (flat_map point_bytes points ++ rest), few_points (length points) fits.0) (points_again points rest fits.1)

curve_reads : Reads (List (ℤ × ℤ)) curve_at curve_bytes FitsCurve
curve_reads = record { takes = curve_takes; again = curve_again }

pub length-curve : (points : List (ℤ × ℤ)) → length (flat_map point_bytes points) ≡ 16 * length points
length-curve [] = refl
length-curve (p ∷ points) =
    omega (arith, length-curve points, ap length (flat_map-cons point_bytes p points), length-append (point_bytes p) (flat_map point_bytes points))

-- ---- marks

mark_takes : (bytes : List ℕ) (mark : Bool) (rest : List ℕ) → IsBytes bytes → mark_at bytes ≡ Some (mark, rest) → Takes bytes (mark_number mark ∷ []) rest
unfolding mark_at
mark_takes bytes mark rest fits e =
    let told : ℕ × List ℕ → Option (Bool × List ℕ) = λ m. cond (eqb m.0 0) (Some (false, m.1)) (cond (eqb m.0 1) (Some (true, m.1)) None) in
    let a = bind_some (byte_at bytes) told (mark, rest) e in
    let t = byte_takes bytes a.0.0 a.0.1 fits a.1 in
    let said : (k : ℕ) (m : Bool) → a.0.0 ≡ k → k ≡ mark_number m → Some (m, a.0.1) ≡ Some (mark, rest) → Takes bytes (mark_number mark ∷ []) rest =
    λ k m is number same. subst (λ (x : Bool × List ℕ). Takes bytes (mark_number x.0 ∷ []) x.1) (some_is (m, a.0.1) (mark, rest) same)
    (subst (λ (n : ℕ). Takes bytes (n ∷ []) a.0.1) (is ∙ number) t) in
    elim (which (eqb a.0.0 0) (Some (false, a.0.1)) _ _ a.2) [
      | inl h ↦ said 0 false (eqb-true _ _ h.0) refl h.1
      | inr h ↦ elim (which (eqb a.0.0 1) (Some (true, a.0.1)) None _ h.1) [
        | inl i ↦ said 1 true (eqb-true _ _ i.0) refl i.1
        | inr i ↦ absurd (let no : None ≡ Some (mark, rest) = i.1 in cc)
      ]
    ]

pub mark_again : (mark : Bool) (rest : List ℕ) → mark_at (mark_number mark ∷ rest) ≡ Some (mark, rest)
unfolding mark_at
mark_again false rest = rw (byte_again 0 rest) refl
mark_again true rest = rw (byte_again 1 rest) refl

pub mark_reads : Reads Bool mark_at (λ mark. mark_number mark ∷ []) IsAny
mark_reads = record { takes = mark_takes; again = λ mark rest fits. mark_again mark rest }

-- ---- entries

abbrev pub Parts : Type 0
Parts = ℤ × (List (ℤ × ℤ) × Bool)

abbrev pub entry_parts : Parts → List ℕ
entry_parts e = signed_number e.0 ++ (curve_bytes e.1.0 ++ mark_number e.1.1 ∷ [])

abbrev pub FitsEntry : Parts → Type 0
FitsEntry e = FitsSigned w64 e.0 × (FitsCurve e.1.0 × IsAny e.1.1)

pub entry_reads : Reads Parts entry_at entry_parts FitsEntry
unfolding entry_at
entry_reads =
    both_reads ℤ (List (ℤ × ℤ) × Bool) signed_number_at signed_number (FitsSigned w64) (both_at curve_at mark_at) (λ c. curve_bytes c.0 ++ mark_number c.1 ∷ []) (λ c. FitsCurve c.0 × IsAny c.1) signed_reads
    (both_reads (List (ℤ × ℤ)) Bool curve_at curve_bytes FitsCurve mark_at (λ mark. mark_number mark ∷ []) IsAny curve_reads mark_reads)

pub entry_spelling : (e : Parts) → entry_bytes e.0 e.1.0 e.1.1 ≡ entry_parts e
entry_spelling e = append_assoc (signed_number e.0) (curve_bytes e.1.0) (mark_number e.1.1 ∷ [])

pub put_fits : (curve : List (ℤ × ℤ)) → IsPutCurve curve → FitsCurve curve
put_fits curve put = (put.most, λ k d below. let point = put.each k d below in (omega (arith, ints, point.stage), omega (arith, ints, point.amount)))

pub length-entry : (at : ℤ) (curve : List (ℤ × ℤ)) (prorate : Bool) → length (entry_bytes at curve prorate) ≡ 10 + 16 * length curve
length-entry at curve prorate =
    omega (arith, length-curve curve, length-append (signed_number at) (curve_bytes curve), length-append (signed_number at ++ curve_bytes curve) (mark_number prorate ∷ []))

-- ---- points one behind another

-- what is read behind points that were read
abbrev pub with_front : List (ℤ × ℤ) → Option (List (ℤ × ℤ) × List ℕ) → Option (List (ℤ × ℤ) × List ℕ)
with_front points None = None
with_front points (Some read) = Some (points ++ read.0, read.1)

front_moved : (points : List (ℤ × ℤ)) (point : ℤ × ℤ) (read : Option (List (ℤ × ℤ) × List ℕ)) → with_front points (behind point read) ≡ with_front (points ++ point ∷ []) read
front_moved points point None = refl
front_moved points point (Some read) =
    ap (λ (all : List (ℤ × ℤ)). Some (all, read.1)) (sym (append_assoc points (point ∷ []) read.0))

-- a point more is read, or none is there, or all are read
more_left : (count i : ℕ) → i < count → count - i ≡ suc (count - (i + 1))
more_left count i below = omega arith

next_left : (count i : ℕ) (rest : List ℕ) → i < count → points_at (count - i) rest ≡ (point_at rest >>= λ point. behind point.0 (points_at (count - (i + 1)) point.1))
next_left count i rest below =
    ap (λ (n : ℕ). points_at n rest) (more_left count i below) ∙ next_points (count - (i + 1)) rest

pub point_more : (count i : ℕ) (bytes rest others : List ℕ) (points : List (ℤ × ℤ)) (point : ℤ × ℤ) → i < count → point_at rest ≡ Some (point, others)
    → with_front points (points_at (count - i) rest) ≡ points_at count bytes → with_front (points ++ point ∷ []) (points_at (count - (i + 1)) others) ≡ points_at count bytes
point_more count i bytes rest others points point below found whole =
    let read : points_at (count - i) rest ≡ behind point (points_at (count - (i + 1)) others) = next_left count i rest below ∙ rw found refl in
    sym (front_moved points point (points_at (count - (i + 1)) others)) ∙ ap (with_front points) (sym read) ∙ whole

pub point_missing : (count i : ℕ) (bytes rest : List ℕ) (points : List (ℤ × ℤ)) → i < count → point_at rest ≡ None
    → with_front points (points_at (count - i) rest) ≡ points_at count bytes → None ≡ points_at count bytes
point_missing count i bytes rest points below none whole =
    let read : points_at (count - i) rest ≡ None = next_left count i rest below ∙ rw none refl in
    ap (with_front points) (sym read) ∙ whole

pub points_read : (count i : ℕ) (bytes rest : List ℕ) (points : List (ℤ × ℤ)) → count ≤ i
    → with_front points (points_at (count - i) rest) ≡ points_at count bytes → Some (points, rest) ≡ points_at count bytes
points_read count i bytes rest points all whole =
    let none : count - i ≡ 0 = omega arith in
    let read : points_at (count - i) rest ≡ Some ([], rest) = ap (λ (n : ℕ). points_at n rest) none ∙ no_points rest in
    ap (λ (all : List (ℤ × ℤ)). Some (all, rest)) (sym (append-nil points)) ∙ ap (with_front points) (sym read) ∙ whole
