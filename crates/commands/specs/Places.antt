-- The place of a journal in a cabinet, before a run and after it.
use Rattle.std.specs.Prelude.{◌≡◌, ◌⊎◌, ℕ, List, [], Option, Some, IfSome, IsSomeAnd, ⊤}
use Rattle.devices.specs.declared.disks.Disk.{Ghosts}
use Rattle.devices.specs.Cabinets.{Place, Free, Kept, Out, OthersStay, IsCounted}
use Rattle.devices.specs.Disks.{IsUnchanged, NothingNew}
use Rattle.journal.specs.Moments.{LeavesOnly}
use Rattle.commands.specs.Worlds.{Shelf}

-- a disk is under the name that has P
abbrev pub HasKept : {D : Type 0} → (D → Type 0) → Place D → Type 0
HasKept P Free = ⊥
HasKept P (Kept disk) = P disk
HasKept P Out = ⊥

-- where a disk is under the name, it has P
abbrev pub IfKept : {D : Type 0} → (D → Type 0) → Place D → Type 0
IfKept P Free = ⊤
IfKept P (Kept disk) = P disk
IfKept P Out = ⊤

-- the bytes that are found where a disk is made if there is none, and what a stop may leave of them
abbrev pub bytes_found : {D : Type 0} → Ghosts D → Place D → Option (List ℕ)
bytes_found g Free = Some []
bytes_found g (Kept disk) = g.content disk
bytes_found g Out = Some []

abbrev pub images_found : {D : Type 0} → Ghosts D → Place D → List ℕ → Type 0
images_found g Free image = image ≡ []
images_found g (Kept disk) image = g.may_leave disk image
images_found g Out image = image ≡ []

-- Nothing was written in a run: the disk has the same bytes, a stop may leave no more of them, and at any moment of the
-- run it left what it might have left before.
pub record IsLeftAlone {D : Type 0} (g : Ghosts D) (found left : D) : Type 0 where
  pub same : IsUnchanged (g.content found) (g.content left)
  pub images : NothingNew (g.may_leave found) (g.may_leave left)
  pub any_moment : LeavesOnly g found left (g.may_leave found)

-- the place has what it had: no disk, or one that was left alone
abbrev pub HasTheSame : {D : Type 0} → Ghosts D → Place D → Place D → Type 0
HasTheSame g (Kept held) place = HasKept (λ disk. IsLeftAlone g held disk) place
HasTheSame g Free place = place ≡ Free
HasTheSame g Out place = place ≡ Out

module _ {D : Type 0} (g : Ghosts D) where
  -- what was under the name had P, and all is as before
  abbrev pub StaysWith : List ℕ → (Place D → Type 0) → Option (List ℕ → Place D) → Option (List ℕ → Place D) → Type 0
  StaysWith name P before after =
      IfSome before (λ b. IsSomeAnd after (λ a. P (b name) × (HasTheSame g (b name) (a name) × OthersStay name b a)))

  -- A disk was given back under the name, and the cabinet counts one fault more exactly where the disk has any; or what was there is
  -- there, and the cabinet counts no fault more, unless it failed.
  abbrev pub IsCountedUnder : List ℕ → Type 0 → Shelf D → Shelf D → Type 0
  IsCountedUnder name failed before after =
      IfSome before.places (λ b. IsSomeAnd after.places (λ a.
      HasKept (λ disk. IsCounted (g.faults disk) before.faults after.faults) (a name)
      ⊎ ((a name ≡ b name) × ((after.faults ≡ before.faults) ⊎ failed))))
