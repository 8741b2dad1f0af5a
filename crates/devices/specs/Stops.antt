-- What a stop leaves of a disk in memory, by what becomes of the bytes that were written behind the last sync.
use Rattle.std.specs.Prelude.{◌≡◌, ℕ, ◌+◌, ◌^◌, ◌<◌, ◌≤◌, List, [], ◌∷◌, length, take, replicate, ⊤}
use Rattle.devices.specs.Disks.{overwritten}
use Rattle.devices.specs.Writes.{Written}
use Rattle.devices.specs.MemoryDisks.{Recorded, changed, replayed}
use Rattle.devices.specs.declared.recordings.Change.{Change}
use Rattle.devices.specs.declared.recordings.Change.TheVariants.{Nothing, Synced, Wrote}
use Rattle.devices.specs.declared.recordings.Step.{Step}
use Rattle.devices.specs.declared.stops.Unsynced.{Unsynced}
use Rattle.devices.specs.declared.stops.Unsynced.TheVariants.{Kept, Lost, Ones}

-- a write begins within the content, and leaves no more bytes than it has
pub record IsWithin (content : List ℕ) (write : Written) : Type 0 where
  pub begins : write.at ≤ length content
  pub ends : write.at + write.count < 2 ^ 64
  pub front : length write.left ≤ write.count

-- so does each write of a disk
abbrev pub ChangesWithin : List ℕ → Change → Type 0
ChangesWithin content Nothing = ⊤
ChangesWithin content Synced = ⊤
ChangesWithin content (Wrote write) = IsWithin content write

abbrev pub AreWithin : List ℕ → List Step → Type 0
AreWithin content [] = ⊤
AreWithin content (step ∷ steps) = ChangesWithin content step.change × AreWithin (changed content step.change) steps

-- What a stop leaves after a call, of what one before it had left and of the content. A sync keeps the whole content. Of a write all bytes
-- are kept, or none, or there is the byte 1 in the place of each.
abbrev pub left_by : Unsynced → List ℕ → List ℕ → Change → List ℕ
left_by how image content Nothing = image
left_by how image content Synced = content
left_by Kept image content (Wrote write) = overwritten image write.at write.left
left_by Lost image content (Wrote write) = image
left_by Ones image content (Wrote write) = overwritten image write.at (replicate (length write.left) 1)

-- what is left is as long as the content, where no bytes are lost
abbrev pub Suits : Unsynced → List ℕ → List ℕ → Type 0
Suits Kept image content = length image ≡ length content
Suits Lost image content = ⊤
Suits Ones image content = length image ≡ length content

-- what a stop leaves after these calls
abbrev pub left_after : Unsynced → List ℕ → List ℕ → List Step → List ℕ
left_after how image content [] = image
left_after how image content (step ∷ steps) = left_after how (left_by how image content step.change) (changed content step.change) steps

-- a disk keeps its content beside all that came to it
pub record IsRecording (first : List ℕ) (steps : List Step) (bytes : List ℕ) : Type 0 where
  pub content : bytes ≡ replayed first steps
  pub within : AreWithin first steps

-- what a stop behind so many of the listed calls leaves
abbrev pub stopped : Unsynced → Recorded → ℕ → List ℕ
stopped how r calls = left_after how r.first r.first (take calls r.steps)
