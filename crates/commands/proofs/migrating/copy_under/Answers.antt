use Rattle.std.proofs.Common.{inl, true}
use Rattle.commands.proofs.HandledLemmas.{handled_under}
use Rattle.commands.proofs.PlaceLemmas.{taken_out}
use Rattle.commands.specs.Migrating.{IsLeftCopied}
use Rattle.commands.specs.Worlds.{shelf}
use Rattle.commands.proofs.migrating.copy_under.Goals as goal

pub keep-requires : goal.keep-requires
keep-requires g c =
    (c.type_bounds.static-C-Disk, taken_out _ _ _ _ _ _ c.in-Disk.ensures.opened)

pub returns-in-Disk : goal.returns-in-Disk
returns-in-Disk g c =
    let copied = c.copy_records-copied in
    let opened = c.in-Disk.ensures in
    inl (handled_under g.C.Disk.Disk c.args.name.now true (IsLeftCopied g.C.Disk.Disk c.args.records.now copied.result.0) (shelf g.C.Cabinet c.args.cabinet.now)
    (shelf g.C.Cabinet c.open.new.self) (shelf g.C.Cabinet c.keep.new.self) c.in-Disk.disk copied.result.1 opened.opened opened.fresh opened.cause
    (record { copies = copied.ensures.copies; cause = copied.ensures.cause }) c.keep.ensures.kept c.keep.ensures.counted)
