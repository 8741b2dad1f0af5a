use Rattle.command_words.specs.Commands.{daily_asked}
use Rattle.commands.proofs.OpeningLemmas.{works_under}
use Rattle.commands.proofs.tables.write_daily.Goals as goal
use Rattle.commands.specs.Tables.{IsTableWritten, daily_written}
use Rattle.commands.specs.Worlds.{shelf, sink_told}

pub returns-clause-over : goal.returns-clause-over
returns-clause-over g c =
    let office = c.in_ok-office.office in
    let closed = c.write_daily_values-end.new.office in
    works_under g.C.Disk.Disk c.args.order.now.journal.now
    (IsTableWritten c.args.order.now.turns (daily_written (daily_asked c.args.order.now)) (sink_told g.K.Sink c.args.output.now) (sink_told g.K.Sink c.write_daily_values-end.new.sink) c.write_daily_values-end.result)
    office.register office.disk closed.disk closed.register.history
    (shelf g.C.Cabinet c.args.cabinet.now) (shelf g.C.Cabinet c.open_office.new.cabinet) (shelf g.C.Cabinet c.close_office.new.cabinet)
    c.in_ok-office.ensures.opened c.write_daily_values-end.ensures.passed
    (record { text_is = c.write_daily_values-end.ensures.written; records = c.write_daily_values-end.ensures.records }) c.close_office.ensures
