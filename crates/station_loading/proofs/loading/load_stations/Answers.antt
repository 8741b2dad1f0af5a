use Rattle.station_loading.proofs.LoadedLemmas.{loaded_all, loaded_nothing, loaded_short}
use Rattle.station_loading.proofs.loading.load_stations.Goals as goal

pub returns-in-Err-clause-loaded : goal.returns-in-Err-clause-loaded
returns-in-Err-clause-loaded g c =
    loaded_nothing c.args.office.now.register.history c.in-Err.end (g.S.Source.left c.args.source.now) (g.S.Source.left c.read_document.new.source)
    (g.K.Sink.written c.args.sink.now) c.in-Err.ensures.unstated c.in-Err.ensures.none c.read_document.ensures.taken

pub returns-then-add_stations-clause-loaded : goal.returns-then-add_stations-clause-loaded
returns-then-add_stations-clause-loaded g c =
    loaded_all c.args.office.now.register.history c.add_stations.new.office.register.history c.in-Ok.edits.items
    (g.S.Source.left c.args.source.now) (g.S.Source.left c.read_document.new.source)
    (g.K.Sink.written c.args.sink.now) (g.K.Sink.written c.add_stations.new.sink)
    c.in-Ok.ensures.stated c.read_document.ensures.taken c.if-add_stations.ensures.told

pub returns-else-add_stations-clause-loaded : goal.returns-else-add_stations-clause-loaded
returns-else-add_stations-clause-loaded g c =
    loaded_short c.args.office.now.register.history c.add_stations.new.office.register.history c.in-Ok.edits.items
    (g.S.Source.left c.args.source.now) (g.S.Source.left c.read_document.new.source)
    (g.K.Sink.written c.args.sink.now) (g.K.Sink.written c.add_stations.new.sink)
    c.in-Ok.ensures.stated c.read_document.ensures.taken c.if-add_stations.ensures.told
