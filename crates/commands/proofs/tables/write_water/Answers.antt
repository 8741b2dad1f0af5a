use Rattle.command_words.specs.Commands.{water_asked}
use Rattle.commands.proofs.AskedLemmas.{water_year_asked}
use Rattle.commands.proofs.OpeningLemmas.{works_under}
use Rattle.commands.proofs.tables.write_water.Goals as goal
use Rattle.commands.specs.Tables.{IsTableWritten, water_written}
use Rattle.commands.specs.Worlds.{shelf, sink_told}

pub returns-clause-over : goal.returns-clause-over
returns-clause-over g c =
    let office = c.in_ok-office.office in
    let closed = c.write_water_year-end.new.office in
    works_under g.C.Disk.Disk c.args.order.now.journal.now
    (IsTableWritten c.args.order.now.turns (water_written (water_asked c.args.order.now)) (sink_told g.K.Sink c.args.output.now) (sink_told g.K.Sink c.write_water_year-end.new.sink) c.write_water_year-end.result)
    office.register office.disk closed.disk closed.register.history
    (shelf g.C.Cabinet c.args.cabinet.now) (shelf g.C.Cabinet c.open_office.new.cabinet) (shelf g.C.Cabinet c.close_office.new.cabinet)
    c.in_ok-office.ensures.opened c.write_water_year-end.ensures.passed
    (record { text_is = c.write_water_year-end.ensures.written; records = c.write_water_year-end.ensures.records }) c.close_office.ensures

pub write_water_year-end-requires-clause-year : goal.write_water_year-end-requires-clause-year
write_water_year-end-requires-clause-year g c = water_year_asked (water_asked c.args.order.now) c.requires
