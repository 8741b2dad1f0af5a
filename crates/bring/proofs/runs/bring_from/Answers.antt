-- What was brought is written, or nothing is.
use Rattle.bring.proofs.RunLemmas.{fault_is_silent, not_silent, unread_run, written_run}
use Rattle.bring.proofs.runs.bring_from.Goals as goal

pub returns-in-Ok-clause-ends : goal.returns-in-Ok-clause-ends
returns-in-Ok-clause-ends g c =
    written_run c.write_both.result c.args.profile.now (g.S.Source.left c.args.source.now) c.in-Ok.brought
    (g.K.Sink.written c.args.sink.now) (g.K.Sink.written c.write_both.new.sink) (g.L.Sink.written c.args.list.now) (g.L.Sink.written c.write_both.new.list)
    c.in-Ok.ensures.brought c.write_both.ensures

pub returns-in-Ok-clause-silent : goal.returns-in-Ok-clause-silent
returns-in-Ok-clause-silent g c = λ silent. absurd (not_silent c.write_both.result c.in-Ok.brought
    (g.K.Sink.written c.args.sink.now) (g.K.Sink.written c.write_both.new.sink) (g.L.Sink.written c.args.list.now) (g.L.Sink.written c.write_both.new.list) c.write_both.ensures silent)

pub returns-in-Ok-clause-input_cause : goal.returns-in-Ok-clause-input_cause
returns-in-Ok-clause-input_cause g c = λ fault. absurd (not_silent c.write_both.result c.in-Ok.brought
    (g.K.Sink.written c.args.sink.now) (g.K.Sink.written c.write_both.new.sink) (g.L.Sink.written c.args.list.now) (g.L.Sink.written c.write_both.new.list) c.write_both.ensures
    (fault_is_silent c.write_both.result fault))

pub returns-in-Err-clause-ends : goal.returns-in-Err-clause-ends
returns-in-Err-clause-ends g c =
    unread_run c.in-Err.end c.args.profile.now (g.S.Source.left c.args.source.now)
    (g.K.Sink.written c.args.sink.now) (g.K.Sink.written c.args.sink.now) (g.L.Sink.written c.args.list.now) (g.L.Sink.written c.args.list.now) c.in-Err.ensures.unread
