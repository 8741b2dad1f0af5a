use Rattle.std.proofs.Common.{subst}
use Rattle.command_words.specs.Commands.{import_asked}
use Rattle.reading_loading.specs.Loading.{IsLoaded}
use Rattle.reading_loading.specs.Puts.{Order}
use Rattle.commands.proofs.AskedLemmas.{import_initials, import_prefix}
use Rattle.commands.proofs.OpeningLemmas.{works_under}
use Rattle.commands.proofs.loading.import_input.Goals as goal
use Rattle.commands.specs.Loading.{ReadingsLoaded}
use Rattle.commands.specs.Worlds.{shelf, sink_told, source_told}

pub returns-clause-over : goal.returns-clause-over
returns-clause-over g c =
    let office = c.in_ok-office.office in
    let closed = c.load_readings-end.new.office in
    let loaded = subst
    (λ (o : Order). IsLoaded o office.register.history closed.register.history c.load_readings-end.result (g.S.Source.left c.args.input.now)
    (g.S.Source.left c.load_readings-end.new.source) (g.K.Sink.written c.args.output.now) (g.K.Sink.written c.load_readings-end.new.sink))
    c.reading_order-asked.ensures c.load_readings-end.ensures.loaded in
    works_under g.C.Disk.Disk c.args.order.now.journal.now
    (ReadingsLoaded (import_asked c.args.order.now) (source_told g.S.Source c.args.input.now) (source_told g.S.Source c.load_readings-end.new.source)
    (sink_told g.K.Sink c.args.output.now) (sink_told g.K.Sink c.load_readings-end.new.sink) c.load_readings-end.result)
    office.register office.disk closed.disk closed.register.history
    (shelf g.C.Cabinet c.args.cabinet.now) (shelf g.C.Cabinet c.open_office.new.cabinet) (shelf g.C.Cabinet c.close_office.new.cabinet)
    c.in_ok-office.ensures.opened c.load_readings-end.ensures.passed loaded c.close_office.ensures

pub reading_order-asked-requires-clause-by : goal.reading_order-asked-requires-clause-by
reading_order-asked-requires-clause-by g c = import_initials (import_asked c.args.order.now) c.requires

pub reading_order-asked-requires-clause-prefix : goal.reading_order-asked-requires-clause-prefix
reading_order-asked-requires-clause-prefix g c = import_prefix (import_asked c.args.order.now) c.requires
