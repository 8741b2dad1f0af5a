use Rattle.std.proofs.Common.{inl, false}
use Rattle.commands.proofs.HandledLemmas.{all_ok, handled_under}
use Rattle.commands.proofs.PlaceLemmas.{taken_out}
use Rattle.commands.specs.Migrating.{AreReadOf, IsLeftUnread}
use Rattle.commands.specs.Worlds.{shelf}
use Rattle.migration.proofs.ReadLemmas.{if_err}
use Rattle.commands.proofs.migrating.read_under.Goals as goal

pub keep-requires : goal.keep-requires
keep-requires g c =
    (c.type_bounds.static-C-Disk, taken_out _ _ _ _ _ _ c.in-Disk.ensures.opened)

pub returns-in-Disk-clause-read : goal.returns-in-Disk-clause-read
returns-in-Disk-clause-read g c =
    let read = c.read_records-read in
    let opened = c.in-Disk.ensures in
    all_ok read.result.0 _ _ _ _ read.ensures.read read.ensures.synced read.ensures.done (λ records stood synced well.
    handled_under g.C.Disk.Disk c.args.name.now false (AreReadOf g.C.Disk.Disk records.items) (shelf g.C.Cabinet c.args.cabinet.now) (shelf g.C.Cabinet c.open.new.self)
    (shelf g.C.Cabinet c.keep.new.self) c.in-Disk.disk read.result.1 opened.opened opened.fresh opened.cause
    (record { stood = stood; same = read.ensures.same; any_moment = synced; well = well }) c.keep.ensures.kept c.keep.ensures.counted)

pub returns-in-Disk-clause-refused : goal.returns-in-Disk-clause-refused
returns-in-Disk-clause-refused g c =
    let read = c.read_records-read in
    let opened = c.in-Disk.ensures in
    if_err read.result.0 _ _ read.ensures.refused (λ why stood.
    inl (handled_under g.C.Disk.Disk c.args.name.now false (IsLeftUnread g.C.Disk.Disk why) (shelf g.C.Cabinet c.args.cabinet.now) (shelf g.C.Cabinet c.open.new.self)
    (shelf g.C.Cabinet c.keep.new.self) c.in-Disk.disk read.result.1 opened.opened opened.fresh opened.cause
    (record { stood = stood; same = read.ensures.same; any_moment = read.ensures.any_moment }) c.keep.ensures.kept c.keep.ensures.counted))
