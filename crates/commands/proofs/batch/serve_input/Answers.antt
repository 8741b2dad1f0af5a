use Rattle.commands.proofs.OpeningLemmas.{works_under}
use Rattle.commands.proofs.batch.serve_input.Goals as goal
use Rattle.commands.specs.Batch.{ServedBetween}
use Rattle.commands.specs.Worlds.{shelf, sink_told, source_told}

pub returns-clause-over : goal.returns-clause-over
returns-clause-over g c =
    let office = c.in_ok-office.office in
    let closed = c.session_alone-end.new.office in
    works_under g.C.Disk.Disk c.args.name.now
    (ServedBetween (source_told g.S.Source c.args.input.now) (source_told g.S.Source c.session_alone-end.new.source)
    (sink_told g.K.Sink c.args.output.now) (sink_told g.K.Sink c.session_alone-end.new.sink) c.session_alone-end.result)
    office.register office.disk closed.disk closed.register.history
    (shelf g.C.Cabinet c.args.cabinet.now) (shelf g.C.Cabinet c.open_office.new.cabinet) (shelf g.C.Cabinet c.close_office.new.cabinet)
    c.in_ok-office.ensures.opened c.session_alone-end.ensures.passed c.session_alone-end.ensures.served c.close_office.ensures
