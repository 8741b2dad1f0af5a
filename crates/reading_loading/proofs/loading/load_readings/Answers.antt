use Rattle.reading_loading.proofs.LoadedLemmas.{loaded_all, loaded_nothing, loaded_short}
use Rattle.reading_loading.proofs.loading.load_readings.Goals as goal

pub returns-in-Err-clause-loaded : goal.returns-in-Err-clause-loaded
returns-in-Err-clause-loaded g c =
    loaded_nothing c.args.order.now c.args.office.now.register.history c.in-Err.end (g.S.Source.left c.args.source.now) (g.S.Source.left c.read_text.new.source)
    (g.K.Sink.written c.args.sink.now) c.in-Err.ensures.unasked c.in-Err.ensures.unstated c.read_text.ensures.taken

pub returns-then-tell_units-clause-loaded : goal.returns-then-tell_units-clause-loaded
returns-then-tell_units-clause-loaded g c =
    loaded_all c.args.order.now c.args.office.now.register.history c.tell_units.new.office.register.history c.in-Ok.units
    (g.S.Source.left c.args.source.now) (g.S.Source.left c.read_text.new.source)
    (g.K.Sink.written c.args.sink.now) (g.K.Sink.written c.tell_units.new.sink)
    c.in-Ok.ensures.stated c.read_text.ensures.taken c.if-tell_units.ensures.told

pub returns-else-tell_units-clause-loaded : goal.returns-else-tell_units-clause-loaded
returns-else-tell_units-clause-loaded g c =
    loaded_short c.args.order.now c.args.office.now.register.history c.tell_units.new.office.register.history c.in-Ok.units
    (g.S.Source.left c.args.source.now) (g.S.Source.left c.read_text.new.source)
    (g.K.Sink.written c.args.sink.now) (g.K.Sink.written c.tell_units.new.sink)
    c.in-Ok.ensures.stated c.read_text.ensures.taken c.if-tell_units.ensures.told
