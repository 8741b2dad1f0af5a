use Rattle.std.proofs.Common.{subst}
use Rattle.command_words.specs.Commands.{notes_asked}
use Rattle.note_loading.specs.Loading.{IsLoaded}
use Rattle.note_loading.specs.declared.visits.Visit.{Visit}
use Rattle.commands.proofs.AskedLemmas.{notes_initials, notes_reference, notes_visit}
use Rattle.commands.proofs.OpeningLemmas.{works_under}
use Rattle.commands.proofs.loading.note_input.Goals as goal
use Rattle.commands.specs.Loading.{NotesLoaded}
use Rattle.commands.specs.Worlds.{shelf, sink_told, source_told}

pub returns-clause-over : goal.returns-clause-over
returns-clause-over g c =
    let office = c.in_ok-office.office in
    let closed = c.load_notes-end.new.office in
    let loaded = subst
    (λ (v : Visit). IsLoaded v office.register.history closed.register.history c.load_notes-end.result (g.S.Source.left c.args.input.now)
    (g.S.Source.left c.load_notes-end.new.source) (g.K.Sink.written c.args.output.now) (g.K.Sink.written c.load_notes-end.new.sink))
    c.visit_of.ensures.visit c.load_notes-end.ensures.loaded in
    works_under g.C.Disk.Disk c.args.order.now.journal.now
    (NotesLoaded (notes_asked c.args.order.now) (source_told g.S.Source c.args.input.now) (source_told g.S.Source c.load_notes-end.new.source)
    (sink_told g.K.Sink c.args.output.now) (sink_told g.K.Sink c.load_notes-end.new.sink) c.load_notes-end.result)
    office.register office.disk closed.disk closed.register.history
    (shelf g.C.Cabinet c.args.cabinet.now) (shelf g.C.Cabinet c.open_office.new.cabinet) (shelf g.C.Cabinet c.close_office.new.cabinet)
    c.in_ok-office.ensures.opened c.load_notes-end.ensures.passed loaded c.close_office.ensures

pub visit_of-requires-clause-by : goal.visit_of-requires-clause-by
visit_of-requires-clause-by g c = notes_initials (notes_asked c.args.order.now) c.requires

pub visit_of-requires-clause-reference : goal.visit_of-requires-clause-reference
visit_of-requires-clause-reference g c = notes_reference (notes_asked c.args.order.now) c.requires

pub visit_of-requires-clause-visit : goal.visit_of-requires-clause-visit
visit_of-requires-clause-visit g c = notes_visit (notes_asked c.args.order.now) c.requires
