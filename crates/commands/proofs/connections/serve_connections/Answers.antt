use Rattle.std.proofs.Common.{ap}
use Rattle.history.specs.Events.{History}
use Rattle.commands.proofs.OpeningLemmas.{opened_counts, shared_under}
use Rattle.commands.proofs.connections.serve_connections.Goals as goal
use Rattle.commands.specs.Serving.{ServesBetween}
use Rattle.commands.specs.Worlds.{doorway, shelf}

pub serve_over-office-requires-clause-counted : goal.serve_over-office-requires-clause-counted
serve_over-office-requires-clause-counted g c κs within =
    opened_counts g.C.Disk.Disk c.args.name.now c.in_ok-office.office.register c.in_ok-office.office.disk
    (shelf g.C.Cabinet c.args.cabinet.now) (shelf g.C.Cabinet c.open_office.new.cabinet) (g.C.Disk.Disk.faults c.in_ok-office.office.disk)
    c.in_ok-office.ensures.opened

pub returns-clause-over : goal.returns-clause-over
returns-clause-over g c =
    let office = c.in_ok-office.office in
    let served = c.serve_over-office in
    shared_under g.C.Disk.Disk c.args.name.now
    (ServesBetween g.C.Disk.Disk c.args.options.workers c.args.options.connections (doorway g.L.Doors c.args.doors.now) (doorway g.L.Doors served.new.doors) served.result.1)
    office.register office.disk served.result.0.disk served.result.0.register.history
    (shelf g.C.Cabinet c.args.cabinet.now) (shelf g.C.Cabinet c.open_office.new.cabinet) (shelf g.C.Cabinet c.close_office.new.cabinet)
    c.in_ok-office.ensures.opened served.ensures.counted served.ensures.passed
    (ap (λ (h : History). h.format) served.ensures.served.goes_on.1) served.ensures.served c.close_office.ensures
