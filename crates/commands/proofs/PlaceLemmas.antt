-- How a disk is taken out of a cabinet and kept again.
use Rattle.std.proofs.Common.{◌≡◌, ℕ, ◌<◌, ◌≤◌, Bool, false, if◌then◌else◌, List, Option, Some, None, IfSome, IsSomeAnd, sym, ◌∙◌, ap, subst, inl, inr, ⊎_elim, arith}
use Rattle.std.proofs.lemmas.Bool.{lt-ltb}
use Rattle.devices.specs.declared.disks.Disk.{Ghosts}
use Rattle.devices.specs.Cabinets.{Place, Free, Kept, Out, OthersStay, IsSameDisk, IsGiven, IsOpened, IsKept, IsCounted}
use Rattle.devices.specs.Failures.{one_more}
use Rattle.devices.specs.Faults.{Rose}
use Rattle.devices.specs.declared.cabinets.Opened.TheVariants as opens
use Rattle.journal.specs.Moments.{LeavesOnly}
use Rattle.commands.specs.Places.{HasKept, IsCountedUnder}

-- a disk that was given leaves its place
pub taken_out : {D : Type 0} (g : Ghosts D)
    (name : List ℕ) (make : Bool) (p0 p1 : Option (List ℕ → Place D)) (disk : D)
    → IsOpened g name make p0 p1 (opens.Disk disk) → IfSome p1 (λ places. places name ≡ Out)
taken_out g name make None None disk opened = tt
taken_out g name make None (Some a) disk opened = absurd (cc)
taken_out g name make (Some b) None disk opened = absurd opened
taken_out g name make (Some b) (Some a) disk opened = opened.1

-- what was given, what is kept, and the other names, where the cabinet tells all
pub opened_and_kept : {D : Type 0} (g : Ghosts D)
    (name : List ℕ) (make : Bool) (p0 p1 p2 : Option (List ℕ → Place D)) (disk left : D) (P : Place D → Place D → Type 0)
    → IsOpened g name make p0 p1 (opens.Disk disk) → IsKept name left p1 p2
    → ((place : Place D) → IsGiven g make place disk → P place (Kept left))
    → IfSome p0 (λ b. IsSomeAnd p2 (λ a. P (b name) (a name) × OthersStay name b a))
opened_and_kept g name make None p1 p2 disk left P opened kept follows = tt
opened_and_kept g name make (Some b) None p2 disk left P opened kept follows = absurd opened
opened_and_kept g name make (Some b) (Some m) None disk left P opened kept follows = absurd kept
opened_and_kept {D} g name make (Some b) (Some m) (Some a) disk left P opened kept follows = (
  subst (λ (p : Place D). P (b name) p) (sym kept.0) (follows (b name) opened.0),
  λ other ne. kept.1 other ne ∙ opened.2 other ne,
)

-- a disk that is not made was there
pub was_kept : {D : Type 0} (g : Ghosts D)
    (place : Place D) (disk left : D) (P : Place D → Place D → Type 0)
    → IsGiven g false place disk
    → ((held : D) → IsSameDisk g held disk → P (Kept held) (Kept left))
    → P place (Kept left)
was_kept g Free disk left P given follows = absurd (cc (given.0))
was_kept g (Kept held) disk left P given follows = follows held given
was_kept g Out disk left P given follows = absurd (cc (given.0))

-- what a stop leaves of a disk that was given, it leaves of the one that was kept
pub leaves_kept : {D : Type 0} (g : Ghosts D) (held disk left : D) (P Q : List ℕ → Type 0)
    → IsSameDisk g held disk → LeavesOnly g disk left P
    → ((image : List ℕ) → P image → Q image) → LeavesOnly g held left Q
leaves_kept g held disk left P Q given leaves wider = record {
  later = omega (arith, given.moment_is, leaves.later);
  each = λ image k. wider image (leaves.each image (subst (λ (n : ℕ). g.left_since left n image) (sym given.moment_is) k));
  before = λ since image le k.
      ⊎_elim (λ was. inl (given.since since image was)) (λ now. inr (wider image now))
      (leaves.before since image (omega (arith, given.moment_is, le)) k);
}

-- a disk that was given and is kept again is counted
pub counts_kept : {D : Type 0} (g : Ghosts D) (failed : Type 0)
    (name : List ℕ) (make : Bool) (p0 p1 p2 : Option (List ℕ → Place D)) (disk left : D) (c0 c1 c2 : ℕ)
    → IsOpened g name make p0 p1 (opens.Disk disk) → IsKept name left p1 p2 → c1 ≡ c0 → IsCounted (g.faults left) c1 c2
    → IsCountedUnder g name failed (record { places = p0; faults = c0 }) (record { places = p2; faults = c2 })
counts_kept g failed name make None p1 p2 disk left c0 c1 c2 opened kept same count = tt
counts_kept g failed name make (Some b) None p2 disk left c0 c1 c2 opened kept same count = absurd opened
counts_kept g failed name make (Some b) (Some m) None disk left c0 c1 c2 opened kept same count = absurd kept
counts_kept {D} g failed name make (Some b) (Some m) (Some a) disk left c0 c1 c2 opened kept same count =
    inl (subst (λ (place : Place D). HasKept (λ disk. IsCounted (g.faults disk) c0 c2) place) (sym kept.0)
    (subst (λ (c : ℕ). IsCounted (g.faults left) c c2) same count))

-- none is, where no disk was given
pub counts_absent : {D : Type 0} (g : Ghosts D) (failed : Type 0)
    (name : List ℕ) (make : Bool) (p0 p2 : Option (List ℕ → Place D)) (c0 c2 : ℕ)
    → IsOpened g name make p0 p2 opens.Absent → c2 ≡ c0
    → IsCountedUnder g name failed (record { places = p0; faults = c0 }) (record { places = p2; faults = c2 })
counts_absent g failed name make None p2 c0 c2 opened same = tt
counts_absent g failed name make (Some b) None c0 c2 opened same = absurd opened
counts_absent g failed name make (Some b) (Some a) c0 c2 opened same = inr (opened.2 name, inl same)

pub counts_failed : {D : Type 0} (g : Ghosts D) (failed : Type 0)
    (name : List ℕ) (make : Bool) (p0 p2 : Option (List ℕ → Place D)) (c0 c2 : ℕ)
    → IsOpened g name make p0 p2 opens.Failed → failed
    → IsCountedUnder g name failed (record { places = p0; faults = c0 }) (record { places = p2; faults = c2 })
counts_failed g failed name make None p2 c0 c2 opened is = tt
counts_failed g failed name make (Some b) None c0 c2 opened is = absurd opened
counts_failed g failed name make (Some b) (Some a) c0 c2 opened is = inr (opened name, inr is)

-- a disk with a fault is one fault of the cabinet
pub rose_kept : (f f' c0 c1 c2 : ℕ) → f ≡ 0 → Rose f f' → c0 ≤ c1 → IsCounted f' c1 c2 → Rose c0 c2
rose_kept f f' c0 c1 c2 fresh rose later counted =
    let some : 0 < f' = omega (arith, rose, fresh) in
    let e : c2 ≡ one_more c1 = counted ∙ ap (λ (b : Bool). if b then one_more c1 else c1) (lt-ltb 0 f' some) in
    omega (arith, e, later)
