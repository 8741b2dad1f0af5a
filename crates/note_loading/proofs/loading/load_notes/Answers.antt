use Rattle.note_loading.proofs.LoadedLemmas.{loaded_cut, loaded_nothing, loaded_told}
use Rattle.note_loading.proofs.loading.load_notes.Goals as goal

pub returns-in-Err-clause-loaded : goal.returns-in-Err-clause-loaded
returns-in-Err-clause-loaded g c =
    loaded_nothing c.args.visit c.args.office.now.register.history c.in-Err.end (g.S.Source.left c.args.source.now) (g.S.Source.left c.read_figures.new.source)
    (g.K.Sink.written c.args.sink.now) c.in-Err.ensures.unread c.read_figures.ensures.taken

pub returns-then-tell_figures-clause-loaded : goal.returns-then-tell_figures-clause-loaded
returns-then-tell_figures-clause-loaded g c =
    loaded_told c.args.visit c.args.office.now.register.history c.tell_figures.new.office.register.history c.in-Ok.figures
    (g.S.Source.left c.args.source.now) (g.S.Source.left c.read_figures.new.source)
    (g.K.Sink.written c.args.sink.now) (g.K.Sink.written c.tell_figures.new.sink)
    c.in-Ok.ensures.read c.read_figures.ensures.taken c.if-tell_figures.ensures.told

pub returns-clause-loaded : goal.returns-clause-loaded
returns-clause-loaded g c =
    loaded_cut c.args.visit c.args.office.now.register.history c.tell_figures.new.office.register.history c.in-Ok.figures
    (g.S.Source.left c.args.source.now) (g.S.Source.left c.read_figures.new.source)
    (g.K.Sink.written c.args.sink.now) (g.K.Sink.written c.tell_figures.new.sink)
    c.in-Ok.ensures.read c.read_figures.ensures.taken c.if-tell_figures.ensures.told
