use Rattle.std.proofs.Common.{ap}
use Rattle.history.specs.Events.{History}
use Rattle.commands.proofs.OpeningLemmas.{opened_counts, shared_under}
use Rattle.commands.proofs.beside.serve_beside.Goals as goal
use Rattle.commands.specs.Beside.{ServedBesideWorkers, ends_told}
use Rattle.commands.specs.Worlds.{shelf, sink_told, source_told}

pub serve_shared-office-requires-clause-counted : goal.serve_shared-office-requires-clause-counted
serve_shared-office-requires-clause-counted g c κs within =
    opened_counts g.C.Disk.Disk c.args.name.now c.in_ok-office.office.register c.in_ok-office.office.disk
    (shelf g.C.Cabinet c.args.cabinet.now) (shelf g.C.Cabinet c.open_office.new.cabinet) (g.C.Disk.Disk.faults c.in_ok-office.office.disk)
    c.in_ok-office.ensures.opened

pub returns-clause-over : goal.returns-clause-over
returns-clause-over g c =
    let office = c.in_ok-office.office in
    let served = c.serve_shared-office in
    shared_under g.C.Disk.Disk c.args.name.now
    (ServedBesideWorkers g.C.Disk.Disk c.args.workers (ends_told (source_told g.S.Source c.args.input.now) (sink_told g.K.Sink c.args.output.now))
    (ends_told (source_told g.S.Source served.new.input) (sink_told g.K.Sink served.new.output)) served.result.1)
    office.register office.disk served.result.0.disk served.result.0.register.history
    (shelf g.C.Cabinet c.args.cabinet.now) (shelf g.C.Cabinet c.open_office.new.cabinet) (shelf g.C.Cabinet c.close_office.new.cabinet)
    c.in_ok-office.ensures.opened served.ensures.counted served.ensures.passed
    (ap (λ (h : History). h.format) served.ensures.served.goes_on.1) served.ensures.served c.close_office.ensures
