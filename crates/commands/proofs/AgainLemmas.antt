-- A migration that was stopped while it copied can be run again.
use Rattle.std.proofs.Common.{◌≡◌, ◌≢◌, ◌⊎◌, ℕ, true, false, List, Option, Some, None, IfSome, IsSome, IsSomeAnd, Ok, Err, refl, sym, ◌∙◌, ap, subst, inl, inr, ⊎_elim}
use Rattle.command_words.specs.Words.{Migrate}
use Rattle.devices.specs.Cabinets.{Place, Free, Kept, Out, IsGiven}
use Rattle.devices.specs.declared.disks.Disk.{Ghosts}
use Rattle.journal.proofs.Moments.{widened}
use Rattle.journal.specs.JournalBytes.{empty_journal}
use Rattle.journal.specs.Moments.{SyncsFirst}
use Rattle.journal.specs.declared.opening.OpenFault.{OpenFault}
use Rattle.journal.specs.declared.opening.OpenFault.TheVariants as opening
use Rattle.migration.specs.Copying.{HasBegun, IsBetween, IsLeftByCopy, IsLeftWith, MayBegin}
use Rattle.migration.specs.Reading.{HasRoom, StandsForAll}
use Rattle.migration.specs.declared.copying.CopyFault.TheVariants as copying
use Rattle.office_inputs.specs.Usual.{usual}
use Rattle.records.specs.Sheets.{Record}
use Rattle.records.specs.declared.formats.Format.TheVariants.{First}
use Rattle.commands.proofs.MigrationLemmas.{given_bytes, given_here, others_stay}
use Rattle.commands.specs.Again.{BeginsToCopy, HasBoth, TellsCopy}
use Rattle.commands.specs.Joined.{Has}
use Rattle.commands.specs.Migrating.{IsHandledUnder, IsLeftCopied, IsMigrated, Migrated, migration_ending}
use Rattle.commands.specs.Opening.{opening_ending}
use Rattle.commands.specs.Places.{HasKept, bytes_found}
use Rattle.commands.specs.Ready.{CanBeCopied}
use Rattle.commands.specs.Runs.{Runs}
use Rattle.commands.specs.Statuses.{status_of}
use Rattle.commands.specs.Worlds.{Shelf, Told, World}
use Rattle.commands.specs.declared.migrating.MigrationFault.TheVariants.{Unread, Full, Uncopied}

-- a copy may begin on what one left, but for an empty journal of the first format
may_begin : (records : List Record) (image : List ℕ) → IsLeftByCopy records image → image ≢ empty_journal First → MayBegin records image
may_begin records image left other = ⊎_elim (λ begins. begins) (λ is. absurd (other is)) left

-- and one that went on behind the records of a journal left a front of the records
left_between : (first records : List Record) (image : List ℕ) → IsBetween first records image → IsLeftByCopy records image
left_between first records image is = inl (inr (is.0, is.2, is.3))

-- the bytes that are told, and what is known of them
record Known (P : List ℕ → Type 0) (o : Option (List ℕ)) : Type 0 where
  bytes : List ℕ
  told : o ≡ Some bytes
  holds : P bytes

known : (P : List ℕ → Type 0) (o : Option (List ℕ)) → IfSome o P → IsSome o → Known P o
known P None is some = absurd (cc some)
known P (Some bytes) is some = record { bytes = bytes; told = refl; holds = is }

-- a journal that was not opened is no migration that is done
not_done : (why : OpenFault) → 0 ≡ status_of (opening_ending why) → ⊥
not_done opening.Fault is = cc is
not_done opening.NotAJournal is = cc is
not_done (opening.Damaged at) is = cc is
not_done opening.NoMemory is = cc is

module _ {D : Type 0} (g : Ghosts D) where
  further : (found left : D) (P R : List ℕ → Type 0) → SyncsFirst g found left P → ((image : List ℕ) → P image → R image)
      → SyncsFirst g found left R
  further found left P R syncs follows = record {
    synced = syncs.synced;
    first = syncs.first;
    before = syncs.before;
    since = widened g syncs.synced left P R syncs.since follows;
  }

  leaves_copies : (records : List Record) (bytes : List ℕ) (found left : D) → HasBegun g records bytes found left
      → SyncsFirst g found left (IsLeftByCopy records)
  leaves_copies records bytes found left (inl made) = made.1
  leaves_copies records bytes found left (inr stood) =
      further found left (IsBetween stood.0 records) (IsLeftByCopy records) stood.3 (left_between stood.0 records)

  -- the records that were read are those of the bytes that stood there
  read_there : (records : List Record) (journal : List ℕ) (place : Place D) (found : D) → IsGiven g false place found
      → IfSome (g.content found) (StandsForAll records) → HasKept (λ disk. g.content disk ≡ Some journal) place → StandsForAll records journal
  read_there records journal Free found given stood has = absurd has
  read_there records journal (Kept held) found given stood has =
      subst (λ (o : Option (List ℕ)). IfSome o (StandsForAll records)) (given.same ∙ has) stood
  read_there records journal Out found given stood has = absurd has

  has_records : (records : List Record) (journal : List ℕ) (place : Place D) → StandsForAll records journal
      → HasKept (λ disk. g.content disk ≡ Some journal) place → HasKept (λ disk. IsSomeAnd (g.content disk) (StandsForAll records)) place
  has_records records journal Free stands has = absurd has
  has_records records journal (Kept disk) stands has =
      subst (λ (o : Option (List ℕ)). IsSomeAnd o (StandsForAll records)) (sym has) stands
  has_records records journal Out stands has = absurd has

  can_be_copied : (from to : List ℕ) (records : List Record) (journal image : List ℕ) (places : Option (List ℕ → Place D)) → from ≢ to
      → StandsForAll records journal → HasRoom usual.journal_bytes records → MayBegin records image
      → IsSomeAnd places (λ p. HasKept (λ disk. g.content disk ≡ Some journal) (p from)) → IsSomeAnd places (λ p. bytes_found g (p to) ≡ Some image)
      → CanBeCopied g from to places
  can_be_copied from to records journal image None apart stands room begins here there = absurd here
  can_be_copied from to records journal image (Some p) apart stands room begins here there = (
    apart,
    (records, has_records records journal (p from) stands here, room, subst (λ (o : Option (List ℕ)). IsSomeAnd o (MayBegin records)) (sym there) begins),
  )

  -- what a stop leaves of the copy, with the journal that is copied, can be copied again
  pub copied_again : (from to journal : List ℕ) (before after again : Shelf D) (begins : BeginsToCopy g from to before after) → from ≢ to
      → Has g from journal before
      → SyncsFirst g begins.copy.found begins.copy.left (λ image. image ≢ empty_journal First → HasBoth g from to journal image again
      → CanBeCopied g from to again.places)
  copied_again from to journal before after again begins apart has =
      let read = begins.read in
      let stands = given_here g from false before.places read.meanwhile.places read.found (λ place. HasKept (λ disk. g.content disk ≡ Some journal) place)
      (StandsForAll begins.records journal) read.given has
      (λ place given kept. read_there begins.records journal place read.found given read.handled.stood kept) in
      further begins.copy.found begins.copy.left (IsLeftByCopy begins.records)
      (λ image. image ≢ empty_journal First → HasBoth g from to journal image again → CanBeCopied g from to again.places)
      (leaves_copies begins.records begins.bytes begins.copy.found begins.copy.left begins.begun)
      (λ image left other both.
      can_be_copied from to begins.records journal image again.places apart stands begins.room (may_begin begins.records image left other) both.0 both.1)

  -- a copy that is done has begun
  has_begun : (records : List Record) (bytes : List ℕ) (found left : D) → IsLeftWith g {T = Unit {0}} records bytes (Ok tt) found left
      → HasBegun g records bytes found left
  has_begun records bytes found left whole = whole.0

  began : (from to : List ℕ) (before after : Shelf D) → IsMigrated g from to (Ok tt) before after → from ≢ to → TellsCopy g to before
      → BeginsToCopy g from to before after
  began from to before after h apart tells =
      ⊎_elim
      (λ (copy : IsHandledUnder g to true (IsLeftCopied g h.0 (Ok tt)) h.1 after).
      let there = others_stay g from to false before.places h.2.meanwhile.places h.1.places h.2.found h.2.left (λ place. IsSome (bytes_found g place))
      h.2.given h.2.kept (λ e. apart (sym e)) tells in
      let told = given_here g to true h.1.places copy.meanwhile.places copy.found (λ place. IsSome (bytes_found g place))
      (IsSome (g.content copy.found)) copy.given there
      (λ place given some. subst (λ (o : Option (List ℕ)). IsSome o) (sym (given_bytes g place copy.found given)) some) in
      let copied = known _ (g.content copy.found) copy.handled.copies told in
      record {
        records = h.0;
        between = h.1;
        read = h.2;
        room = h.3;
        copied = Ok tt;
        copy = copy;
        bytes = copied.bytes;
        stood = copied.told;
        begun = has_begun h.0 copied.bytes copy.found copy.left copied.holds.1;
      })
      (λ failed. absurd (cc failed.0))
      h.4

  began_at : (from to : List ℕ) (migrated : Migrated) (before after : Shelf D) → IsMigrated g from to migrated before after
      → 0 ≡ status_of (migration_ending migrated) → from ≢ to → TellsCopy g to before → BeginsToCopy g from to before after
  began_at from to (Ok done) before after h is apart tells = began from to before after h apart tells
  began_at from to (Err (Unread why)) before after h is apart tells = absurd (not_done why is)
  began_at from to (Err Full) before after h is apart tells = absurd (cc is)
  began_at from to (Err (Uncopied (copying.Open why))) before after h is apart tells = absurd (not_done why is)
  began_at from to (Err (Uncopied (copying.Differs number))) before after h is apart tells = absurd (cc is)

module _ {S K E C L P D : Type 0} (g : Ghosts D) (tell : World S K E C L P → Told D) where
  pub migration_began : (from to : List ℕ) (before after : World S K E C L P) → Runs g tell (Migrate from to) 0 before after → from ≢ to
      → TellsCopy g to (tell before).cabinet → BeginsToCopy g from to (tell before).cabinet (tell after).cabinet
  migration_began from to before after run apart tells =
      ⊎_elim
      (λ none. absurd (cc (run.told.status_is ∙ ap status_of none.0)))
      (λ did. began_at g from to did.0 (tell before).cabinet (tell after).cabinet did.2.migrated_under
      (run.told.status_is ∙ ap status_of did.1) apart tells)
      run.did
