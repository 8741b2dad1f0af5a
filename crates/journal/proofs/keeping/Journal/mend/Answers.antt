use Rattle.std.proofs.Common.{List, Some, Result, Ok, Err, refl}
use Rattle.std.specs.Result.{IsErrAnd}
use Rattle.devices.specs.declared.disks.Disk.{Ghosts}
use Rattle.devices.specs.declared.disks.DiskFailed.{DiskFailed}
use Rattle.records.specs.Sheets.{Record}
use Rattle.journal.specs.JournalBytes.{IsJournalOf, IsUndecided}
use Rattle.journal.specs.Keeping.{Holds, Mends}
use Rattle.journal.specs.declared.keeping.Journal.{Journal}
use Rattle.journal.proofs.Runs.{mend_moments}
use Rattle.journal.proofs.Written.{closed}
use Rattle.journal.proofs.Stops.{told_torn, told_written, here, mend_images, mend_done, durable}
use Rattle.journal.proofs.keeping.Journal.mend.Goals as goal

mends_not : {D T : Type 0} {g : Ghosts D} (P : DiskFailed → Type 0) (pieces : List Record) (last : Record) (journal : Journal D g) (result : Result T DiskFailed)
    → IsErrAnd result P → Holds pieces (Some last) journal → Mends pieces last journal result
mends_not P pieces last journal (Ok done) is holds = absurd is
mends_not P pieces last journal (Err failed) is holds = holds

-- the write or the sync failed
pub returns-in_err-write_and_sync-clause-mended : goal.returns-in_err-write_and_sync-clause-mended
returns-in_err-write_and_sync-clause-mended g c pieces last holds =
    let laws = g.met.D.Disk in
    let images = mend_images c.args.self.now.format pieces last c.args.self.now.gate _ _ holds.gate_is holds.images c.write_and_sync.ensures.images in
    mends_not _ pieces last _ c.from_residual.result c.from_residual.ensures.1
    (record {
      told = told_torn _ _ _ _ holds.told c.in_err-write_and_sync.ensures.torn;
      in_doubt_is = holds.in_doubt_is;
      gate_is = holds.gate_is;
      now = here (g.D.Disk.content c.write_and_sync.new.disk) (IsUndecided c.args.self.now.format pieces last) (λ bytes is. images bytes (laws.stands c.write_and_sync.new.disk bytes is));
      images = images;
    })

pub returns-in_err-write_and_sync-clause-any_moment : goal.returns-in_err-write_and_sync-clause-any_moment
returns-in_err-write_and_sync-clause-any_moment g c pieces last holds =
    mend_moments g.D.Disk c.args.self.now.format pieces last c.args.self.now.gate c.args.self.now.disk c.write_and_sync.new.disk holds.gate_is holds.images
    c.write_and_sync.ensures.any_moment

-- both were done
pub returns-clause-any_moment : goal.returns-clause-any_moment
returns-clause-any_moment g c pieces last holds =
    mend_moments g.D.Disk c.args.self.now.format pieces last c.args.self.now.gate c.args.self.now.disk c.write_and_sync.new.disk holds.gate_is holds.images
    c.write_and_sync.ensures.any_moment

pub returns-clause-mended : goal.returns-clause-mended
returns-clause-mended g c pieces last holds =
    let laws = g.met.D.Disk in
    let written = c.in_ok-write_and_sync.ensures.written in
    let images = mend_done c.args.self.now.format pieces last c.args.self.now.gate _ _ _ holds.gate_is holds.told holds.now written in (
      record {
        told = told_written _ _ _ _ _ holds.told written;
        in_doubt_is = refl;
        gate_is = holds.gate_is;
        now = here (g.D.Disk.content c.write_and_sync.new.disk) (IsJournalOf c.args.self.now.format pieces) (λ bytes is. images bytes (laws.stands c.write_and_sync.new.disk bytes is));
        images = images;
      },
      durable _ _ _ _ _ holds.told written,
    )

pub returns-clause-wrote : goal.returns-clause-wrote
returns-clause-wrote g c = closed _ _ c.args.self.now.gate _ c.in_ok-write_and_sync.ensures.written
