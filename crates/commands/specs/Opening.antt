-- A journal that is opened, worked over and closed, or not opened: what the commands over a journal have in common.
use Rattle.std.specs.Prelude.{◌≡◌, ◌⊎◌, ℕ, false, List, Option, IfSome, IsSome, IsSomeAnd, Result, Ok, Err, ⊤}
use Rattle.shared_office.specs.Passages.{RoseBy}
use Rattle.devices.specs.Cabinets.{Place, IsCounted, IsKept, IsOpened, OthersStay}
use Rattle.devices.specs.Disks.{IsUnchanged}
use Rattle.devices.specs.Faults.{Rose}
use Rattle.devices.specs.declared.cabinets.Opened.TheVariants as opens
use Rattle.devices.specs.declared.disks.Disk.{Ghosts}
use Rattle.history.specs.After.{reopen}
use Rattle.history.specs.Events.{History}
use Rattle.history.specs.Legal.{IsLegal}
use Rattle.journal.specs.JournalBytes.{HasAnyHeader, IsJournalOf}
use Rattle.journal.specs.Moments.{IsContent, SyncsFirst}
use Rattle.journal.specs.declared.opening.OpenFault.{OpenFault}
use Rattle.journal.specs.declared.opening.OpenFault.TheVariants as opening
use Rattle.office.specs.Counting.{fault_count}
use Rattle.office.specs.Openings.{IsDamagedFor}
use Rattle.office.specs.Stops.{IsLeft, IsLeftBetween}
use Rattle.office_inputs.specs.Usual.{usual}
use Rattle.records.specs.Sheets.{Record}
use Rattle.register.specs.Registered.{NoneOut, Registered}
use Rattle.commands.specs.Places.{HasKept, IfKept, IsCountedUnder, StaysWith}
use Rattle.commands.specs.Worlds.{Shelf}
use Rattle.commands.specs.declared.endings.Ending.{Ending}
use Rattle.commands.specs.declared.endings.Ending.TheVariants as endings

-- what it comes to that a journal was not opened
abbrev pub opening_ending : OpenFault → Ending
opening_ending opening.Fault = endings.DiskFault
opening_ending opening.NotAJournal = endings.NotAJournal
opening_ending (opening.Damaged at) = endings.Damaged at
opening_ending opening.NoMemory = endings.NoMemory

-- what work over a journal comes to, which ended by itself or for which the journal was not opened
abbrev pub ending_over : {End : Type 0} → (End → Ending) → Result End OpenFault → Ending
ending_over ending_of (Ok end) = ending_of end
ending_over ending_of (Err why) = opening_ending why

module _ {D : Type 0} (g : Ghosts D) where
  -- what stood under the name whose journal was not opened for this reason
  abbrev pub StoodUnopened : OpenFault → Place D → Type 0
  StoodUnopened opening.Fault place = ⊤
  StoodUnopened opening.NotAJournal place = IfKept (λ disk. IfSome (g.content disk) (λ bytes. ¬ HasAnyHeader bytes)) place
  StoodUnopened (opening.Damaged at) place = HasKept (λ disk. IfSome (g.content disk) (IsDamagedFor usual at)) place
  StoodUnopened opening.NoMemory place = ⊤

  -- The journal under a name was not opened, and all is as before. A fault is told only where the cabinet's count rose.
  pub record IsNotOpenedUnder (name : List ℕ) (why : OpenFault) (before after : Shelf D) : Type 0 where
    pub stays : StaysWith g name (StoodUnopened why) before.places after.places
    pub cause : why ≡ opening.Fault → Rose before.faults after.faults
    pub counted : IsCountedUnder g name (why ≡ opening.Fault) before after

  -- The disk under a name was taken out, and an office was opened on the journal of the records that were found on it, in the format in which
  -- it was found.
  pub record IsOpenedUnder (name : List ℕ) (register : Registered) (opened : D) (before now : Shelf D) : Type 0 where
    pub found : D
    pub pieces : List Record
    pub given : IsOpened g name false before.places now.places (opens.Disk found)
    pub counted : now.faults ≡ before.faults
    pub journal : IfSome (g.content found) (IsJournalOf register.history.format pieces)
    pub same : IsUnchanged (g.content found) (g.content opened)
    pub synced : SyncsFirst g found opened (IsContent (g.content found))
    pub reopened : register.history ≡ reopen usual register.history.format pieces
    pub claims : NoneOut register

  -- An office of this history was closed, and its disk is under the name.
  pub record IsClosedUnder (name : List ℕ) (h : History) (left : D) (now after : Shelf D) : Type 0 where
    pub kept : IsKept name left now.places after.places
    pub counted : IsCounted (g.faults left) now.faults after.faults
    pub stands : IfSome (g.content left) (IsLeft h)
    pub images : IsSome (g.content left) → (image : List ℕ) → g.may_leave left image → IsLeft h image
    pub legal : IsLegal h

  -- a file, and whatever a stop may leave of it, stands for the edits that were accepted, or for these and the one in doubt
  pub record IsLeftOn (h : History) (disk : D) : Type 0 where
    pub now : IsSomeAnd (g.content disk) (IsLeft h)
    pub images : (image : List ℕ) → g.may_leave disk image → IsLeft h image

  -- The disk had the journal of these records and is left with that of the history behind them, in the same format, where it tells its bytes.
  -- Until the sync that began the opening was done, a stop left what it might have left before; from then on it left the journal of the edits
  -- that were accepted up to some point of that history, or of these and one more. No more faults are in the history than the disk
  -- had, and the history is legal.
  pub record Carries (pieces : List Record) (last : History) (found left : D) : Type 0 where
    pub journal : IfSome (g.content found) (λ bytes. IsJournalOf last.format pieces bytes × IsLeftOn last left)
    pub any_moment : IfSome (g.content found) (λ bytes. SyncsFirst g found left (IsLeftBetween (reopen usual last.format pieces) last))
    pub causes : RoseBy (fault_count last.events) 0 (g.faults left)
    pub legal : IsLegal last

  -- The same of a disk that was behind a lock meanwhile. What is left stands for the edits that were accepted, or for these and the one in
  -- doubt, where it tells its bytes, and so does whatever a stop may leave of it then. That this and every moment before are as without a
  -- lock is said without the way on which they came about.
  pub record LeadsTo (pieces : List Record) (last : History) (found left : D) : Type 0 where
    pub journal : IfSome (g.content found) (IsJournalOf last.format pieces)
    pub now : IfSome (g.content left) (IsLeft last)
    pub images : IsSome (g.content left) → (image : List ℕ) → g.may_leave left image → IsLeft last image
    pub causes : RoseBy (fault_count last.events) 0 (g.faults left)
    pub legal : IsLegal last
    pub any_moment : ∥ Carries pieces last found left ∥₁

  -- a disk was found under the name, and one is left there that goes on from it
  abbrev pub GoesOnAt : (D → D → Type 0) → Place D → Place D → Type 0
  GoesOnAt GoesOn before now = HasKept (λ found. HasKept (λ left. GoesOn found left) now) before

  -- both where the cabinet tells what it has; under the other names nothing has changed
  abbrev pub GoesOnUnder : List ℕ → (D → D → Type 0) → Option (List ℕ → Place D) → Option (List ℕ → Place D) → Type 0
  GoesOnUnder name GoesOn before after =
      IfSome before (λ b. IsSomeAnd after (λ a. GoesOnAt GoesOn (b name) (a name) × OthersStay name b a))

  -- The journal of some records was found under the name, and what was done over it went from these to a history that it is left with, in the
  -- same format, by a disk that goes on from the one that was found. Where the count of faults of the cabinet did not rise, no fault is in
  -- the history.
  pub record WorksUnder (name : List ℕ) (GoesOn : List Record → History → D → D → Type 0) (Worked : History → History → Type 0)
      (before after : Shelf D) : Type 0 where
    pub pieces : List Record
    pub last : History
    pub worked : Worked (reopen usual last.format pieces) last
    pub goes_on : GoesOnUnder name (GoesOn pieces last) before.places after.places
    pub causes : (fault_count last.events ≡ 0) ⊎ Rose before.faults after.faults
    pub counted : IsCountedUnder g name ⊥ before after

  -- work over the journal under a name, by its end: what was done, or why the journal was not opened
  abbrev pub RunsOver : {End : Type 0} → List ℕ → (List Record → History → D → D → Type 0) → (End → History → History → Type 0)
      → Result End OpenFault → Shelf D → Shelf D → Type 0
  RunsOver name GoesOn Worked (Ok end) before after = WorksUnder name GoesOn (Worked end) before after
  RunsOver name GoesOn Worked (Err why) before after = IsNotOpenedUnder name why before after
