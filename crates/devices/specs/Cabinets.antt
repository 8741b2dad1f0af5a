-- What a cabinet has under its names.
use Rattle.std.specs.Prelude.{◌≡◌, ◌≢◌, ℕ, Bool, true, false, List, [], Option, Some, None, IfSome, IsSomeAnd, ⊤, if◌then◌else◌, nat_lt}
use Rattle.devices.specs.declared.disks.Disk.{Ghosts}
use Rattle.devices.specs.Disks.{NothingNew, Only}
use Rattle.devices.specs.Failures.{one_more}
use Rattle.devices.specs.Faults.{Rose}
use Rattle.devices.specs.declared.cabinets.Opened.{Opened}
use Rattle.devices.specs.declared.cabinets.Opened.TheVariants.{Disk, Absent, Failed}

-- under a name there is no disk, or this one, or one was taken out and is not back yet
pub data Place (D : Type 0) : Type 0 where
  Free : Place D
  Kept : D → Place D
  Out : Place D

-- a disk is there
abbrev pub is_kept : {D : Type 0} → Place D → Bool
is_kept Free = false
is_kept (Kept disk) = true
is_kept Out = false

-- nothing has changed under the other names
abbrev pub OthersStay : {D : Type 0} → List ℕ → (List ℕ → Place D) → (List ℕ → Place D) → Type 0
OthersStay name before after = (other : List ℕ) → other ≢ name → after other ≡ before other

-- nothing has changed under any name
abbrev pub AllStay : {D : Type 0} → (List ℕ → Place D) → (List ℕ → Place D) → Type 0
AllStay before after = (other : List ℕ) → after other ≡ before other

-- The disk that is given is the one that was kept, but that its count of faults is 0: it has the same content, a stop may
-- leave the same, and it had the same calls. Its clock goes on: it is the same moment, and a stop since any moment might
-- have left the same.
pub record IsSameDisk {D : Type 0} (d : Ghosts D) (old new : D) : Type 0 where
  pub same : d.content new ≡ d.content old
  pub images : NothingNew (d.may_leave old) (d.may_leave new)
  pub again : NothingNew (d.may_leave new) (d.may_leave old)
  pub moment_is : d.moment new ≡ d.moment old
  pub since : (from : ℕ) → NothingNew (d.left_since old from) (d.left_since new from)
  pub since_again : (from : ℕ) → NothingNew (d.left_since new from) (d.left_since old from)
  pub listed : d.calls new ≡ d.calls old

-- a disk that was made: it has no bytes, a stop leaves none, and at no moment so far did a stop leave any
pub record IsEmptyDisk {D : Type 0} (d : Ghosts D) (disk : D) : Type 0 where
  pub none : d.content disk ≡ Some []
  pub images : Only [] (d.may_leave disk)
  pub since : (from : ℕ) → Only [] (d.left_since disk from)

-- what stood under the name is given, or a disk is made where none stood
abbrev pub IsGiven : {D : Type 0} → Ghosts D → Bool → Place D → D → Type 0
IsGiven d make Free disk = (make ≡ true) × IsEmptyDisk d disk
IsGiven d make (Kept held) disk = IsSameDisk d held disk
IsGiven d make Out disk = (make ≡ true) × IsEmptyDisk d disk

abbrev pub Opens : {D : Type 0} → Ghosts D → List ℕ → Bool → (List ℕ → Place D) → (List ℕ → Place D) → Opened D → Type 0
Opens d name make before after (Disk disk) = IsGiven d make (before name) disk × (after name ≡ Out) × OthersStay name before after
Opens d name make before after Absent = (make ≡ false) × (is_kept (before name) ≡ false) × AllStay before after
Opens d name make before after Failed = AllStay before after

-- a cabinet that tells what it has goes on telling it; one that tells nothing goes on telling nothing
abbrev pub IsOpened : {D : Type 0} → Ghosts D → List ℕ → Bool → Option (List ℕ → Place D) → Option (List ℕ → Place D) → Opened D → Type 0
IsOpened d name make None after opened = after ≡ None
IsOpened d name make (Some before) after opened = IsSomeAnd after (λ a. Opens d name make before a opened)

-- no disk is absent that was to be made
abbrev pub IsAsked : {D : Type 0} → Bool → Opened D → Type 0
IsAsked make (Disk disk) = ⊤
IsAsked make Absent = make ≡ false
IsAsked make Failed = ⊤

-- a disk that is given has no faults yet
abbrev pub IsFresh : {D : Type 0} → Ghosts D → Opened D → Type 0
IsFresh d (Disk disk) = d.faults disk ≡ 0
IsFresh d Absent = ⊤
IsFresh d Failed = ⊤

-- the count of faults rises where it failed, and stays where it did not
abbrev pub HasCause : {D : Type 0} → ℕ → ℕ → Opened D → Type 0
HasCause before now (Disk disk) = now ≡ before
HasCause before now Absent = now ≡ before
HasCause before now Failed = Rose before now

-- the disk is under its name, and nothing has changed under the other names
abbrev pub IsKept : {D : Type 0} → List ℕ → D → Option (List ℕ → Place D) → Option (List ℕ → Place D) → Type 0
IsKept name disk before after =
    IfSome before (λ b. IsSomeAnd after (λ a. (a name ≡ Kept disk) × OthersStay name b a))

-- the count of faults rises exactly where the disk's is above 0
abbrev pub IsCounted : ℕ → ℕ → ℕ → Type 0
IsCounted disk before after = after ≡ (if nat_lt 0 disk then one_more before else before)
