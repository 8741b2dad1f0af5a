-- What a run of `migrate` comes to.
use Rattle.std.specs.Prelude.{◌≡◌, ◌⊎◌, ℕ, Bool, true, false, List, IfSome, Result, Ok, Err, ⊤}
use Rattle.devices.specs.Cabinets.{HasCause, IsCounted, IsKept, IsOpened}
use Rattle.devices.specs.Disks.{IsUnchanged}
use Rattle.devices.specs.declared.cabinets.Opened.{Opened}
use Rattle.devices.specs.declared.cabinets.Opened.TheVariants as opens
use Rattle.devices.specs.declared.disks.Disk.{Ghosts}
use Rattle.journal.specs.Moments.{IsContent, LeavesOnly, SyncsFirst}
use Rattle.journal.specs.declared.opening.OpenFault.{OpenFault}
use Rattle.journal.specs.declared.opening.OpenFault.TheVariants as opening
use Rattle.migration.specs.Copying.{Copies, HasCause as HasCopyCause, HasFailed}
use Rattle.migration.specs.Reading.{HasRoom, IsUnread, StandsForAll}
use Rattle.migration.specs.declared.copying.CopyFault.{CopyFault}
use Rattle.migration.specs.declared.copying.CopyFault.TheVariants as copying
use Rattle.office_inputs.specs.Usual.{usual}
use Rattle.records.specs.Sheets.{Record}
use Rattle.commands.specs.Opening.{opening_ending}
use Rattle.commands.specs.Worlds.{DoorsStay, Shelf, StreamsStay, Told, World}
use Rattle.commands.specs.declared.endings.Ending.{Ending}
use Rattle.commands.specs.declared.endings.Ending.TheVariants as endings
use Rattle.commands.specs.declared.migrating.MigrationFault.{MigrationFault}
use Rattle.commands.specs.declared.migrating.MigrationFault.TheVariants.{Unread, Full, Uncopied}

-- the end of a migration: it is done, or why it is not
abbrev pub Migrated : Type 0
Migrated = Result (Unit {0}) MigrationFault

-- what it comes to
abbrev pub migration_ending : Migrated → Ending
migration_ending (Ok done) = endings.Done
migration_ending (Err (Unread why)) = opening_ending why
migration_ending (Err Full) = endings.JournalFull
migration_ending (Err (Uncopied (copying.Open why))) = opening_ending why
migration_ending (Err (Uncopied (copying.Differs number))) = endings.Differs number

module _ {D : Type 0} (g : Ghosts D) where
  -- A disk was taken out from under a name, or made where none stood if that was asked, and is under the name again; from the one that was given
  -- to the one that was put back P holds. The cabinet counts one fault more exactly where the disk has any.
  pub record IsHandledUnder (name : List ℕ) (make : Bool) (P : D → D → Type 0) (before after : Shelf D) : Type 0 where
    pub found : D
    pub left : D
    pub meanwhile : Shelf D
    pub given : IsOpened g name make before.places meanwhile.places (opens.Disk found)
    pub fresh : g.faults found ≡ 0
    pub uncounted : meanwhile.faults ≡ before.faults
    pub handled : P found left
    pub kept : IsKept name left meanwhile.places after.places
    pub counted : IsCounted (g.faults left) meanwhile.faults after.faults

  -- a cabinet gave no disk: none stands there, which is no journal, or it failed
  abbrev pub IsRefused : OpenFault → Opened D → Type 0
  IsRefused opening.NotAJournal opens.Absent = ⊤
  IsRefused opening.Fault opens.Failed = ⊤
  IsRefused why opened = ⊥

  pub record IsNotGivenUnder (name : List ℕ) (make : Bool) (why : OpenFault) (before after : Shelf D) : Type 0 where
    pub opened : Opened D
    pub refused : IsRefused why opened
    pub places : IsOpened g name make before.places after.places opened
    pub cause : HasCause before.faults after.faults opened

  -- The records of a journal were read to its end, and the disk had no fault. Nothing was written, and from the sync that came first on a stop leaves
  -- what the journal has.
  pub record AreReadOf (records : List Record) (found left : D) : Type 0 where
    pub stood : IfSome (g.content found) (StandsForAll records)
    pub same : IsUnchanged (g.content found) (g.content left)
    pub any_moment : SyncsFirst g found left (IsContent (g.content found))
    pub well : g.faults left ≡ g.faults found

  -- they were not, and a stop leaves what it might have left before
  pub record IsLeftUnread (why : OpenFault) (found left : D) : Type 0 where
    pub stood : IsUnread (g.content found) why (g.faults found) (g.faults left)
    pub same : IsUnchanged (g.content found) (g.content left)
    pub any_moment : LeavesOnly g found left (g.may_leave found)

  -- The records were copied, or not. A failure has its cause, and a copy that is done, or other records that were found, came without a fault.
  pub record IsLeftCopied (records : List Record) (copied : Result (Unit {0}) CopyFault) (found left : D) : Type 0 where
    pub copies : Copies g records copied found left
    pub cause : HasCopyCause (g.faults found) (g.faults left) copied

  abbrev pub IsUnreadUnder : List ℕ → OpenFault → Shelf D → Shelf D → Type 0
  IsUnreadUnder name why before after =
      IsHandledUnder name false (IsLeftUnread why) before after ⊎ IsNotGivenUnder name false why before after

  abbrev pub AreReadUnder : List ℕ → List Record → Shelf D → Shelf D → Type 0
  AreReadUnder name records before after = IsHandledUnder name false (AreReadOf records) before after

  abbrev pub IsCopiedUnder : List ℕ → List Record → Result (Unit {0}) CopyFault → Shelf D → Shelf D → Type 0
  IsCopiedUnder name records copied before after =
      IsHandledUnder name true (IsLeftCopied records copied) before after
      ⊎ (HasFailed copied × IsNotGivenUnder name true opening.Fault before after)

  -- A migration from the journal of one name to that of another, step by step: the first is read to its end; its records fit into a journal of the
  -- second format; they are copied into the second. The first step that is not done is told, and none behind it is begun.
  abbrev pub IsMigrated : List ℕ → List ℕ → Migrated → Shelf D → Shelf D → Type 0
  IsMigrated from to (Ok done) before after =
      (records : List Record) × (between : Shelf D) × AreReadUnder from records before between × HasRoom usual.journal_bytes records
      × IsCopiedUnder to records (Ok tt) between after
  IsMigrated from to (Err (Unread why)) before after = IsUnreadUnder from why before after
  IsMigrated from to (Err Full) before after =
      (records : List Record) × AreReadUnder from records before after × (¬ (HasRoom usual.journal_bytes records))
  IsMigrated from to (Err (Uncopied fault)) before after =
      (records : List Record) × (between : Shelf D) × AreReadUnder from records before between × HasRoom usual.journal_bytes records
      × IsCopiedUnder to records (Err fault) between after

-- A run of `migrate`. No other object is touched.
pub record Migrates {S K E C L P D : Type 0} (g : Ghosts D) (tell : World S K E C L P → Told D) (from to : List ℕ) (migrated : Migrated)
    (before after : World S K E C L P) : Type 0 where
  pub migrated_under : IsMigrated g from to migrated (tell before).cabinet (tell after).cabinet
  pub streams : StreamsStay before after
  pub doors : DoorsStay before after
