use Rattle.commands.proofs.MakingLemmas.{made_kept, not_made}
use Rattle.commands.proofs.PlaceLemmas.{taken_out}
use Rattle.commands.proofs.making.make_journal.Goals as goal

pub keep-requires : goal.keep-requires
keep-requires g c =
    (c.type_bounds.static-C-Disk, taken_out _ _ _ _ _ _ c.in-Disk.ensures.opened)

pub returns-in-Disk : goal.returns-in-Disk
returns-in-Disk g c =
    let places = g.C.Cabinet.places in
    let faults = g.C.Cabinet.faults in
    made_kept g.C.Disk.Disk c.make_on-made.result.0 c.args.name.now
    (places c.args.cabinet.now) (places c.open.new.self) (places c.keep.new.self)
    (faults c.args.cabinet.now) (faults c.open.new.self) (faults c.keep.new.self)
    c.in-Disk.disk c.make_on-made.result.1
    c.in-Disk.ensures.opened c.keep.ensures.kept c.in-Disk.ensures.fresh c.in-Disk.ensures.cause c.keep.ensures.counted
    c.make_on-made.ensures.makes c.make_on-made.ensures.any_moment c.make_on-made.ensures.cause

pub returns-in-Absent : goal.returns-in-Absent
returns-in-Absent g c =
    let places = g.C.Cabinet.places in
    let faults = g.C.Cabinet.faults in
    not_made g.C.Disk.Disk c.args.name.now (places c.args.cabinet.now) (places c.open.new.self)
    (faults c.args.cabinet.now) (faults c.open.new.self) c.open.result
    c.in-Absent.is c.open.ensures.opened c.open.ensures.asked c.open.ensures.cause
