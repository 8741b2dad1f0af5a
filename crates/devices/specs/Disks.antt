-- The model of a disk: what its calls do to its content, and what a stop may leave between two syncs.
use Rattle.std.specs.Prelude.{◌≡◌, ◌⊎◌, ℕ, ◌+◌, ◌-◌, ◌^◌, ◌≤◌, max, Bool, is_err, List, [], ◌∷◌, ◌++◌, length, take, drop, Option, Some, None, IfSome, IsSomeAnd, Result, OnErr}
use Rattle.devices.specs.Faults.{Rose}
use Rattle.devices.specs.declared.disks.DiskFailed.{DiskFailed}

-- the old bytes with these at this offset, over what stood there and past the old end
abbrev pub overwritten : List ℕ → ℕ → List ℕ → List ℕ
overwritten old at bytes = take at old ++ bytes ++ drop (at + length bytes) old

-- What a write of so many bytes may have come to: any bytes in its range and past the old end, the same elsewhere, and
-- any length between.
pub record Torn (at count : ℕ) (old new : List ℕ) : Type 0 where
  pub before : take at new ≡ take at old
  pub behind : drop (at + count) new ≡ drop (at + count) old
  pub no_shorter : length old ≤ length new
  pub no_longer : length new ≤ max (length old) (at + count)

-- a disk that tells its content goes on telling it, and has the same; one that tells none goes on telling none
abbrev pub IsUnchanged : Option (List ℕ) → Option (List ℕ) → Type 0
IsUnchanged before after = after ≡ before

-- what the disk has after a write that was done
abbrev pub IsOverwritten : Option (List ℕ) → ℕ → List ℕ → Option (List ℕ) → Type 0
IsOverwritten None at bytes after = after ≡ None
IsOverwritten (Some old) at bytes after = after ≡ Some (overwritten old at bytes)

-- what the disk has after a write that failed
abbrev pub IsTorn : Option (List ℕ) → ℕ → ℕ → Option (List ℕ) → Type 0
IsTorn None at count after = after ≡ None
IsTorn (Some old) at count after = IsSomeAnd after (Torn at count old)

-- a stop may leave no more than before
abbrev pub NothingNew : (List ℕ → Type 0) → (List ℕ → Type 0) → Type 0
NothingNew old new = (image : List ℕ) → new image → old image

-- what a stop may leave now is what it might have left before, after a step
abbrev pub Follows : (List ℕ → List ℕ → Type 0) → (List ℕ → Type 0) → (List ℕ → Type 0) → Type 0
Follows step old new = (image : List ℕ) → new image → (before : List ℕ) × old before × step before image

-- a stop leaves this and nothing else
abbrev pub Only : List ℕ → (List ℕ → Type 0) → Type 0
Only bytes images = (image : List ℕ) → images image → image ≡ bytes

abbrev pub IsDurable : Option (List ℕ) → (List ℕ → Type 0) → Type 0
IsDurable content images = IfSome content (λ bytes. Only bytes images)

-- Time goes on: a stop since then might have left what it might have left before, or what it may leave now.
pub record Elapses (before now : ℕ) (past since : ℕ → List ℕ → Type 0) (may_leave : List ℕ → Type 0) : Type 0 where
  pub later : before ≤ now
  pub nothing_else : (moment : ℕ) (image : List ℕ) → moment ≤ before → since moment image → past moment image ⊎ may_leave image
  pub remembers : (moment : ℕ) (image : List ℕ) → moment ≤ before → past moment image → since moment image

-- a failure comes only where the count of faults rose
abbrev pub HasCause : {T : Type 0} → ℕ → ℕ → Result T DiskFailed → Type 0
HasCause before now result = OnErr result (Rose before now)

-- The call stands at the end of the list of calls, with whether it failed. A disk may lose count where its faults
-- stand at the end of their type.
abbrev pub IsListed : {T : Type 0} → Option (List ℕ) → List Bool → Result T DiskFailed → List Bool → ℕ → Type 0
IsListed content before result after faults =
    IfSome content (λ bytes. (after ≡ before ++ is_err result ∷ []) ⊎ (2 ^ 64 - 1 ≤ faults))
