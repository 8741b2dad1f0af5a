-- How a migration ends.
use Rattle.std.proofs.Common.{◌≡◌, ◌≢◌, ◌⊎◌, ℕ, Bool, true, false, ◌||◌, if◌then◌else◌, nat_eq, nat_lt, List, Option, Some, None, IfSome, IsSomeAnd, Result, Ok, Err, refl, sym, ◌∙◌, ap, subst, inl, inr, ⊎_elim, arith}
use Rattle.devices.specs.declared.cabinets.Opened.{Opened}
use Rattle.devices.specs.declared.cabinets.Opened.TheVariants as opens
use Rattle.devices.specs.declared.disks.Disk.{Ghosts}
use Rattle.devices.specs.Cabinets.{Place, Free, Kept, Out, HasCause as CabinetCause, is_kept, IsCounted, IsGiven, IsKept, IsOpened}
use Rattle.devices.specs.Failures.{one_more}
use Rattle.devices.specs.Faults.{Rose}
use Rattle.journal.proofs.Walks.{journal_header, not_damaged, one_format, one_header, one_list, damaged_header}
use Rattle.journal.specs.JournalBytes.{IsDamagedAt, IsJournalOf}
use Rattle.journal.specs.declared.opening.OpenFault.{OpenFault}
use Rattle.journal.specs.declared.opening.OpenFault.TheVariants as opening
use Rattle.migration.proofs.AnswerLemmas.{not_barred}
use Rattle.migration.specs.Copying.{HasCause as HasCopyCause, HasFailed, MayBegin}
use Rattle.migration.specs.Reading.{HasRoom, IsUnread, StandsForAll}
use Rattle.migration.specs.declared.copying.CopyFault.{CopyFault}
use Rattle.migration.specs.declared.copying.CopyFault.TheVariants as copying
use Rattle.office_inputs.specs.Usual.{usual}
use Rattle.records.specs.Sheets.{Record}
use Rattle.records.specs.declared.formats.Format.{Format}
use Rattle.commands.proofs.Lawful.{HasCause, IsLawful, innocent}
use Rattle.commands.proofs.OpeningLemmas.{unopened_cause}
use Rattle.commands.proofs.PlaceLemmas.{rose_kept}
use Rattle.commands.specs.Migrating.{AreReadOf, AreReadUnder, IsCopiedUnder, IsHandledUnder, IsLeftCopied, IsLeftUnread, IsMigrated, IsNotGivenUnder, IsRefused, IsUnreadUnder, Migrated, Migrates, migration_ending}
use Rattle.commands.specs.Opening.{opening_ending}
use Rattle.commands.specs.Places.{HasKept, bytes_found}
use Rattle.commands.specs.Ready.{CabinetIsWell, CanBeCopied, IsDone}
use Rattle.commands.specs.Statuses.{status_of}
use Rattle.commands.specs.Worlds.{Shelf, Told, World}
use Rattle.commands.specs.declared.migrating.MigrationFault.TheVariants.{Unread, Full, Uncopied}

-- a copy that was not made
abbrev not_copied : CopyFault → Result (Unit {0}) CopyFault
not_copied fault = Err fault

-- a copy that failed has its cause
copy_rose : (before now : ℕ) (copied : Result (Unit {0}) CopyFault) → HasCopyCause before now copied → HasFailed copied → Rose before now
copy_rose before now copied cause failed =
    let rose : HasCopyCause before now (not_copied (copying.Open opening.Fault)) =
    subst (λ (c : Result (Unit {0}) CopyFault). HasCopyCause before now c) failed cause in
    rose refl

-- a disk without faults is none of the cabinet's
unmoved : (faults before after : ℕ) → faults ≡ 0 → IsCounted faults before after → after ≡ before
unmoved faults before after none counted = subst (λ (n : ℕ). IsCounted n before after) none counted

-- at these statuses no fault was met
abbrev pub IsUnfailed : ℕ → Type 0
IsUnfailed status = (status ≡ 0) ⊎ ((status ≡ 11) ⊎ (status ≡ 12))

abbrev pub is_unfailed : ℕ → Bool
is_unfailed status = nat_eq status 0 || nat_eq status 11 || nat_eq status 12

unfailed_is : (status : ℕ) → IsUnfailed status → is_unfailed status ≡ true
unfailed_is status is =
    elim is [
      | inl e ↦ ap is_unfailed e
      | inr rest ↦ elim rest [ inl e ↦ ap is_unfailed e | inr e ↦ ap is_unfailed e ]
    ]

pub not_unfailed : (status : ℕ) → is_unfailed status ≡ false → IsUnfailed status → ⊥
not_unfailed status not is = let never : true ≡ false = sym (unfailed_is status is) ∙ not in cc never

opening_failed : (why : OpenFault) → IsUnfailed (status_of (opening_ending why)) → ⊥
opening_failed opening.Fault is = not_unfailed 4 refl is
opening_failed opening.NotAJournal is = not_unfailed 5 refl is
opening_failed (opening.Damaged at) is = not_unfailed 5 refl is
opening_failed opening.NoMemory is = not_unfailed 6 refl is

-- what rose behind a disk that was kept rose in all
rose_through : (faults before between after : ℕ) → IsCounted faults before between → Rose between after → Rose before after
rose_through faults before between after counted rose = by (nat_lt 0 faults) counted
  where
    by : (some : Bool) → between ≡ (if some then one_more before else before) → Rose before after
    by true e = omega (arith, e, rose)
    by false e = omega (arith, e, rose)

-- two facts of what is there
both : (o : Option (List ℕ)) (P Q : List ℕ → Type 0) → IfSome o P → IsSomeAnd o Q → (bytes : List ℕ) × P bytes × Q bytes
both None P Q p q = absurd q
both (Some bytes) P Q p q = (bytes, p, q)

-- a file stands for one list of records, whatever its format
same_records : (a b : List Record) (bytes : List ℕ) → StandsForAll a bytes → StandsForAll b bytes → a ≡ b
same_records a b bytes here there =
    let format = one_format here.0 there.0 a b bytes here.1 there.1 in
    one_list here.0 a b bytes here.1 (subst (λ (f : Format). IsJournalOf f b bytes) (sym format) there.1)

not_damaged_for : (records : List Record) (at : ℕ) (bytes : List ℕ) → StandsForAll records bytes → ((format : Format) × IsDamagedAt format at bytes) → ⊥
not_damaged_for records at bytes here damaged =
    let format = one_header here.0 damaged.0 bytes (journal_header here.0 records bytes here.1) (damaged_header damaged.0 at bytes damaged.1) in
    not_damaged here.0 records at bytes here.1 (subst (λ (f : Format). IsDamagedAt f at bytes) (sym format) damaged.1)

module _ {D : Type 0} (g : Ghosts D) where
  -- a fault of the disk is one of the cabinet
  rose_handled : (name : List ℕ) (make : Bool) (P : D → D → Type 0) (before after : Shelf D) (h : IsHandledUnder g name make P before after)
      → Rose (g.faults h.found) (g.faults h.left) → Rose before.faults after.faults
  rose_handled name make P before after h rose =
      rose_kept (g.faults h.found) (g.faults h.left) before.faults h.meanwhile.faults after.faults h.fresh rose (omega (arith, h.uncounted)) h.counted

  rose_behind : (name : List ℕ) (make : Bool) (P : D → D → Type 0) (before between after : Shelf D) (h : IsHandledUnder g name make P before between)
      → Rose between.faults after.faults → Rose before.faults after.faults
  rose_behind name make P before between after h rose =
      rose_through (g.faults h.left) before.faults between.faults after.faults
      (subst (λ (n : ℕ). IsCounted (g.faults h.left) n between.faults) h.uncounted h.counted) rose

  -- a cabinet that gave no disk for a fault failed
  rose_refused : (name : List ℕ) (make : Bool) (before after : Shelf D) → IsNotGivenUnder g name make opening.Fault before after
      → Rose before.faults after.faults
  rose_refused name make before after h = by h.opened h.refused h.cause
    where
      by : (opened : Opened D) → IsRefused g opening.Fault opened → CabinetCause before.faults after.faults opened
          → Rose before.faults after.faults
      by (opens.Disk disk) refused cause = absurd refused
      by opens.Absent refused cause = absurd refused
      by opens.Failed refused cause = cause

  unread_cause : (name : List ℕ) (why : OpenFault) (before after : Shelf D) → IsUnreadUnder g name why before after → why ≡ opening.Fault
      → Rose before.faults after.faults
  unread_cause name why before after (inl h) is =
      rose_handled name false (IsLeftUnread g why) before after h
      (subst (λ (w : OpenFault). IsUnread (g.content h.found) w (g.faults h.found) (g.faults h.left)) is h.handled.stood)
  unread_cause name why before after (inr h) is =
      rose_refused name false before after (subst (λ (w : OpenFault). IsNotGivenUnder g name false w before after) is h)

  uncopied_cause : (name : List ℕ) (records : List Record) (copied : Result (Unit {0}) CopyFault) (before after : Shelf D)
      → IsCopiedUnder g name records copied before after → HasFailed copied → Rose before.faults after.faults
  uncopied_cause name records copied before after (inl h) failed =
      rose_handled name true (IsLeftCopied g records copied) before after h
      (copy_rose (g.faults h.found) (g.faults h.left) copied h.handled.cause failed)
  uncopied_cause name records copied before after (inr h) failed = rose_refused name true before after h.1

  migration_cause : (from to : List ℕ) (migrated : Migrated) (before after : Told D) → IsMigrated g from to migrated before.cabinet after.cabinet
      → HasCause (status_of (migration_ending migrated)) before after
  migration_cause from to (Ok done) before after h = innocent 0 before after refl
  migration_cause from to (Err (Unread why)) before after h =
      unopened_cause why before after (unread_cause from why before.cabinet after.cabinet h)
  migration_cause from to (Err Full) before after h = innocent 12 before after refl
  migration_cause from to (Err (Uncopied (copying.Open why))) before after h =
      unopened_cause why before after
      (λ is. rose_behind from false (AreReadOf g h.0) before.cabinet h.1 after.cabinet h.2
      (uncopied_cause to h.0 (Err (copying.Open why)) h.1 after.cabinet h.4
      (ap (λ (w : OpenFault). not_copied (copying.Open w)) is)))
  migration_cause from to (Err (Uncopied (copying.Differs number))) before after h = innocent 11 before after refl

  -- a disk that had no fault raised no count
  unrisen : (name : List ℕ) (make : Bool) (P : D → D → Type 0) (before after : Shelf D) (h : IsHandledUnder g name make P before after)
      → g.faults h.left ≡ g.faults h.found → after.faults ≡ before.faults
  unrisen name make P before after h same =
      unmoved (g.faults h.left) h.meanwhile.faults after.faults (same ∙ h.fresh) h.counted ∙ h.uncounted

  read_well : (name : List ℕ) (records : List Record) (before after : Shelf D) → AreReadUnder g name records before after
      → after.faults ≡ before.faults
  read_well name records before after h = unrisen name false (AreReadOf g records) before after h h.handled.well

  copied_well : (name : List ℕ) (records : List Record) (copied : Result (Unit {0}) CopyFault) (before after : Shelf D)
      → IsCopiedUnder g name records copied before after → ¬ (HasFailed copied)
      → ((old new : ℕ) → HasCopyCause old new copied → new ≡ old) → after.faults ≡ before.faults
  copied_well name records copied before after (inl h) calm stays =
      unrisen name true (IsLeftCopied g records copied) before after h (stays (g.faults h.found) (g.faults h.left) h.handled.cause)
  copied_well name records copied before after (inr h) calm stays = absurd (calm h.0)

  pub migrated_well : (from to : List ℕ) (migrated : Migrated) (before after : Shelf D) → IsMigrated g from to migrated before after
      → IsUnfailed (status_of (migration_ending migrated)) → after.faults ≡ before.faults
  migrated_well from to (Ok done) before after h is =
      copied_well to h.0 (Ok tt) h.1 after h.4 (λ e. cc e) (λ old new same. same) ∙ read_well from h.0 before h.1 h.2
  migrated_well from to (Err (Unread why)) before after h is = absurd (opening_failed why is)
  migrated_well from to (Err Full) before after h is = read_well from h.0 before after h.1
  migrated_well from to (Err (Uncopied (copying.Open why))) before after h is = absurd (opening_failed why is)
  migrated_well from to (Err (Uncopied (copying.Differs number))) before after h is =
      copied_well to h.0 (not_copied (copying.Differs number)) h.1 after h.4 (λ e. cc e) (λ old new same. same)
      ∙ read_well from h.0 before h.1 h.2

  -- what was given is what stood there
  pub given_here : (name : List ℕ) (make : Bool) (p0 p1 : Option (List ℕ → Place D)) (found : D) (Q : Place D → Type 0) (R : Type 0)
      → IsOpened g name make p0 p1 (opens.Disk found) → IsSomeAnd p0 (λ b. Q (b name)) → ((place : Place D) → IsGiven g make place found → Q place → R) → R
  given_here name make None p1 found Q R opened q follows = absurd q
  given_here name make (Some b) None found Q R opened q follows = absurd opened
  given_here name make (Some b) (Some a) found Q R opened q follows = follows (b name) opened.0 q

  pub others_stay : (name other : List ℕ) (make : Bool) (p0 p1 p2 : Option (List ℕ → Place D)) (found left : D) (Q : Place D → Type 0)
      → IsOpened g name make p0 p1 (opens.Disk found) → IsKept name left p1 p2 → other ≢ name → IsSomeAnd p0 (λ b. Q (b other)) → IsSomeAnd p2 (λ a. Q (a other))
  others_stay name other make None p1 p2 found left Q opened kept apart q = absurd q
  others_stay name other make (Some b) None p2 found left Q opened kept apart q = absurd opened
  others_stay name other make (Some b) (Some m) None found left Q opened kept apart q = absurd kept
  others_stay name other make (Some b) (Some m) (Some a) found left Q opened kept apart q =
      subst Q (sym (kept.1 other apart ∙ opened.2 other apart)) q

  -- the journal that stood there is the one that was given
  stood : (P : List ℕ → Type 0) (place : Place D) (found : D) → IsGiven g false place found → HasKept (λ disk. IsSomeAnd (g.content disk) P) place
      → IsSomeAnd (g.content found) P
  stood P Free found given kept = absurd kept
  stood P (Kept held) found given kept = subst (λ (o : Option (List ℕ)). IsSomeAnd o P) (sym given.same) kept
  stood P Out found given kept = absurd kept

  -- and so are the bytes on which a copy begins
  pub given_bytes : (place : Place D) (found : D) → IsGiven g true place found → g.content found ≡ bytes_found g place
  given_bytes Free found given = given.1.none
  given_bytes (Kept held) found given = given.same
  given_bytes Out found given = given.1.none

  abbrev HasRecords : List Record → Place D → Type 0
  HasRecords records place = HasKept (λ disk. IsSomeAnd (g.content disk) (StandsForAll records)) place

  abbrev HasBeginning : List Record → Place D → Type 0
  HasBeginning records place = IsSomeAnd (bytes_found g place) (MayBegin records)

  record Found (from to : List ℕ) (places : Option (List ℕ → Place D)) : Type 0 where
    pub records : List Record
    pub apart : from ≢ to
    pub here : IsSomeAnd places (λ p. HasRecords records (p from))
    pub room : HasRoom usual.journal_bytes records
    pub there : IsSomeAnd places (λ p. HasBeginning records (p to))

  found_in : (from to : List ℕ) (places : Option (List ℕ → Place D)) → CanBeCopied g from to places → Found from to places
  found_in from to None can = absurd can.1
  found_in from to (Some p) can = record { records = can.1.0; apart = can.0; here = can.1.1; room = can.1.2; there = can.1.3 }

  -- the records that were read are those that stood there
  same_read : (from : List ℕ) (records read : List Record) (before after : Shelf D) → IsSomeAnd before.places (λ p. HasRecords records (p from))
      → AreReadUnder g from read before after → records ≡ read
  same_read from records read before after here h =
      given_here from false before.places h.meanwhile.places h.found (HasRecords records) (records ≡ read) h.given here
      (λ place given kept.
      let two = both (g.content h.found) (StandsForAll read) (StandsForAll records) h.handled.stood (stood (StandsForAll records) place h.found given kept) in
      same_records records read two.0 two.2 two.1)

  -- a sound journal is read, but for a fault or a want of memory
  unread_fault : (from : List ℕ) (records : List Record) (why : OpenFault) (before after : Shelf D) → IsSomeAnd before.places (λ p. HasRecords records (p from))
      → ¬ (Rose before.faults after.faults) → IsUnreadUnder g from why before after → status_of (opening_ending why) ≡ 6
  unread_fault from records opening.Fault before after here well h = absurd (well (unread_cause from opening.Fault before after h refl))
  unread_fault from records opening.NoMemory before after here well h = refl
  unread_fault from records opening.NotAJournal before after here well (inl h) =
      absurd (given_here from false before.places h.meanwhile.places h.found (HasRecords records) ⊥ h.given here
      (λ place given kept.
      let two = both (g.content h.found) _ (StandsForAll records) h.handled.stood (stood (StandsForAll records) place h.found given kept) in
      two.1 (two.2.0, journal_header two.2.0 records two.0 two.2.1)))
  unread_fault from records opening.NotAJournal before after here well (inr h) = absurd (by h.opened h.refused h.places)
    where
      none : (p0 p1 : Option (List ℕ → Place D)) → IsOpened g from false p0 p1 opens.Absent → IsSomeAnd p0 (λ p. HasRecords records (p from)) → ⊥
      none None p1 opened here = here
      none (Some b) None opened here = opened
      none (Some b) (Some a) opened here = gone (b from) opened.1 here
        where
          gone : (place : Place D) → is_kept place ≡ false → HasRecords records place → ⊥
          gone Free away kept = kept
          gone (Kept disk) away kept = absurd (cc away)
          gone Out away kept = kept

      by : (opened : Opened D) → IsRefused g opening.NotAJournal opened → IsOpened g from false before.places after.places opened → ⊥
      by (opens.Disk disk) refused opened = refused
      by opens.Absent refused opened = none before.places after.places opened here
      by opens.Failed refused opened = refused
  unread_fault from records (opening.Damaged at) before after here well (inl h) =
      absurd (given_here from false before.places h.meanwhile.places h.found (HasRecords records) ⊥ h.given here
      (λ place given kept.
      let two = both (g.content h.found) _ (StandsForAll records) h.handled.stood (stood (StandsForAll records) place h.found given kept) in
      not_damaged_for records at two.0 two.2 two.1))
  unread_fault from records (opening.Damaged at) before after here well (inr h) = absurd (by h.opened h.refused)
    where
      by : (opened : Opened D) → IsRefused g (opening.Damaged at) opened → ⊥
      by (opens.Disk disk) refused = refused
      by opens.Absent refused = refused
      by opens.Failed refused = refused

  -- where a copy may begin it is done, but for a fault or a want of memory
  uncopied_fault : (to : List ℕ) (records : List Record) (fault : CopyFault) (before after : Shelf D)
      → IsSomeAnd before.places (λ p. HasBeginning records (p to)) → ¬ (Rose before.faults after.faults)
      → IsCopiedUnder g to records (Err fault) before after → status_of (migration_ending (Err (Uncopied fault))) ≡ 6
  uncopied_fault to records fault before after there well (inr h) = absurd (well (rose_refused to true before after h.1))
  uncopied_fault to records fault before after there well (inl h) =
      let which = given_here to true before.places h.meanwhile.places h.found (HasBeginning records)
      ((fault ≡ copying.Open opening.Fault) ⊎ (fault ≡ copying.Open opening.NoMemory)) h.given there
      (λ place given begins.
      let two = both (g.content h.found) _ (MayBegin records) h.handled.copies
      (subst (λ (o : Option (List ℕ)). IsSomeAnd o (MayBegin records)) (sym (given_bytes place h.found given)) begins) in
      not_barred (Unit {0}) records two.0 fault two.2 two.1.0) in
      ⊎_elim
      (λ is. absurd (well (rose_handled to true (IsLeftCopied g records (Err fault)) before after h
      (copy_rose (g.faults h.found) (g.faults h.left) (not_copied fault) h.handled.cause (ap not_copied is)))))
      (λ is. ap (λ (f : CopyFault). status_of (migration_ending (Err (Uncopied f)))) is)
      which

  migration_done : (from to : List ℕ) (migrated : Migrated) (before after : Shelf D) → Found from to before.places
      → ¬ (Rose before.faults after.faults) → IsMigrated g from to migrated before after → IsDone (status_of (migration_ending migrated))
  migration_done from to (Ok done) before after found well h = inl refl
  migration_done from to (Err (Unread why)) before after found well h = inr (unread_fault from found.records why before after found.here well h)
  migration_done from to (Err Full) before after found well h =
      let same = same_read from found.records h.0 before after found.here h.1 in
      absurd (h.2 (subst (HasRoom usual.journal_bytes) same found.room))
  migration_done from to (Err (Uncopied fault)) before after found well h =
      let read = h.2 in
      let same = same_read from found.records h.0 before h.1 found.here read in
      let there = others_stay from to false before.places read.meanwhile.places h.1.places read.found read.left (HasBeginning h.0) read.given read.kept
      (λ e. found.apart (sym e)) (subst (λ (l : List Record). IsSomeAnd before.places (λ p. HasBeginning l (p to))) same found.there) in
      inr (uncopied_fault to h.0 fault h.1 after there
      (λ rose. well (rose_behind from false (AreReadOf g h.0) before h.1 after read rose)) h.4)

module _ {S K E C L P D : Type 0} (g : Ghosts D) (tell : World S K E C L P → Told D) (from to : List ℕ) where
  pub migration_lawful : IsLawful tell migration_ending (λ found. CanBeCopied g from to found.cabinet.places) CabinetIsWell
      (λ migrated before after. Migrates g tell from to migrated before after)
  migration_lawful = record {
    cause = λ migrated before after did. migration_cause g from to migrated (tell before) (tell after) did.migrated_under;
    early = λ migrated before after did is. did.streams;
    unwritten = λ migrated before after did is. did.streams.1;
    complete = λ migrated before after did ready well.
        migration_done g from to migrated (tell before).cabinet (tell after).cabinet (found_in g from to (tell before).cabinet.places ready) well did.migrated_under;
  }
