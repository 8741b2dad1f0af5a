-- What a run of `init` comes to.
use Rattle.std.specs.Prelude.{◌≡◌, ◌⊎◌, ℕ, List, Option, IfSome, IsSomeAnd, Result, Ok, Err}
use Rattle.devices.specs.declared.disks.Disk.{Ghosts}
use Rattle.devices.specs.Cabinets.{Place, Free, Kept, Out, OthersStay}
use Rattle.devices.specs.Faults.{Rose}
use Rattle.journal.specs.Init.{InitAnswers, InitLeaves, IsLeftByInit}
use Rattle.journal.specs.Moments.{LeavesOnly}
use Rattle.journal.specs.declared.making.InitFault.{InitFault}
use Rattle.journal.specs.declared.making.InitFault.TheVariants as making
use Rattle.records.specs.declared.formats.Format.TheVariants.{Second}
use Rattle.commands.specs.Places.{HasKept, IsCountedUnder, bytes_found, images_found}
use Rattle.commands.specs.Worlds.{DoorsStay, Shelf, StreamsStay, Told, World}
use Rattle.commands.specs.declared.endings.Ending.{Ending}
use Rattle.commands.specs.declared.endings.Ending.TheVariants as endings

-- the end of the making of a journal: what the journal's own call answers, whose fault is also that of a cabinet that gave no disk
abbrev pub Made : Type 0
Made = Result (Unit {0}) InitFault

-- what it comes to
abbrev pub making_ending : Made → Ending
making_ending (Ok done) = endings.Done
making_ending (Err making.Exists) = endings.Exists
making_ending (Err making.NotAJournal) = endings.NotAJournal
making_ending (Err making.Fault) = endings.DiskFault

-- nothing could be made, since the disk or the cabinet failed
abbrev pub HasFailed : Made → Type 0
HasFailed made = made ≡ Err making.Fault

module _ {D : Type 0} (g : Ghosts D) where
  -- Exactly where which answer is given over these bytes, of which a stop might leave these images, and what the disk has then: a journal of the
  -- second format, where one was made. A fault may come in place of each.
  abbrev pub MakesOn : List ℕ → (List ℕ → Type 0) → Made → D → Type 0
  MakesOn bytes images made disk = InitAnswers bytes made × InitLeaves Second bytes (g.content disk) images (g.may_leave disk) made

  -- a stop at any moment of a run leaves an image that has P: of a disk that was under the name, at any moment since then,
  -- and of one that was made, at any moment of its own
  abbrev pub LeavesAt : (List ℕ → Type 0) → Place D → D → Type 0
  LeavesAt P Free disk = (image : List ℕ) → g.left_since disk 0 image → P image
  LeavesAt P (Kept held) disk = LeavesOnly g held disk P
  LeavesAt P Out disk = (image : List ℕ) → g.left_since disk 0 image → P image

  -- The disk that was found or made is under its name, as the answer says, and so is what a stop at any moment of the run left. But where
  -- the cabinet failed, the place is as before.
  abbrev pub MakesAt : Made → Place D → Place D → Type 0
  MakesAt made before after =
      (HasFailed made × (after ≡ before))
      ⊎ HasKept (λ disk. IfSome (bytes_found g before) (λ bytes. MakesOn bytes (images_found g before) made disk)
      × LeavesAt (IsLeftByInit (bytes_found g before) (images_found g before) made) before disk) after

  -- and under the other names nothing has changed
  abbrev pub MakesUnder : List ℕ → Made → Option (List ℕ → Place D) → Option (List ℕ → Place D) → Type 0
  MakesUnder name made before after =
      IfSome before (λ b. IsSomeAnd after (λ a. MakesAt made (b name) (a name) × OthersStay name b a))

  -- The making of a journal under a name: what stands there then, that a fault is told only where the cabinet's count rose, and how the
  -- cabinet counts it.
  pub record IsMadeUnder (name : List ℕ) (made : Made) (before after : Shelf D) : Type 0 where
    pub makes : MakesUnder name made before.places after.places
    pub cause : HasFailed made → Rose before.faults after.faults
    pub counted : IsCountedUnder g name (HasFailed made) before after

-- A run of `init`. No other object is touched.
pub record Makes {S K E C L P D : Type 0} (g : Ghosts D) (tell : World S K E C L P → Told D) (name : List ℕ) (made : Made)
    (before after : World S K E C L P) : Type 0 where
  pub made_under : IsMadeUnder g name made (tell before).cabinet (tell after).cabinet
  pub streams : StreamsStay before after
  pub doors : DoorsStay before after
