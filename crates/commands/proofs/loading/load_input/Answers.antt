use Rattle.commands.proofs.OpeningLemmas.{works_under}
use Rattle.commands.proofs.loading.load_input.Goals as goal
use Rattle.commands.specs.Loading.{StationsLoaded}
use Rattle.commands.specs.Worlds.{shelf, sink_told, source_told}

pub returns-clause-over : goal.returns-clause-over
returns-clause-over g c =
    let office = c.in_ok-office.office in
    let closed = c.load_stations-end.new.office in
    works_under g.C.Disk.Disk c.args.name.now
    (StationsLoaded (source_told g.S.Source c.args.input.now) (source_told g.S.Source c.load_stations-end.new.source)
    (sink_told g.K.Sink c.args.output.now) (sink_told g.K.Sink c.load_stations-end.new.sink) c.load_stations-end.result)
    office.register office.disk closed.disk closed.register.history
    (shelf g.C.Cabinet c.args.cabinet.now) (shelf g.C.Cabinet c.open_office.new.cabinet) (shelf g.C.Cabinet c.close_office.new.cabinet)
    c.in_ok-office.ensures.opened c.load_stations-end.ensures.passed c.load_stations-end.ensures.loaded c.close_office.ensures
