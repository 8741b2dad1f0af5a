-- The figures are written, and then the office is asked.
use Rattle.note_loading.proofs.ToldLemmas.{told_asked, told_cut}
use Rattle.note_loading.proofs.loading.tell_figures.Goals as goal

pub returns-then-not-put_all-clause-told : goal.returns-then-not-put_all-clause-told
returns-then-not-put_all-clause-told g c =
    told_cut c.args.visit c.args.figures.now c.args.office.now.register.history (g.K.Sink.written c.args.sink.now) (g.K.Sink.written c.put_all.new.sink)
    c.requires.some (rw c.as_slice.ensures at c.if-not-put_all.ensures.written)

pub returns-clause-told : goal.returns-clause-told
returns-clause-told g c =
    told_asked c.args.visit c.args.figures.now c.args.office.now.register.history c.tell_edit.new.office.register.history c.make_edit-edit.result c.tell_edit.result
    (g.K.Sink.written c.args.sink.now) (g.K.Sink.written c.put_all.new.sink) (g.K.Sink.written c.tell_edit.new.sink)
    (rw c.as_slice.ensures at c.if-not-put_all.ensures.written) c.make_edit-edit.ensures c.tell_edit.ensures.told
