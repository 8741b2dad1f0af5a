-- The picture is written, or nothing is.
use Rattle.draw.proofs.RunLemmas.{drawn_run, fault_is_silent, not_silent, unread_run}
use Rattle.draw.proofs.runs.draw_from.Goals as goal

pub returns-in-Ok-clause-ends : goal.returns-in-Ok-clause-ends
returns-in-Ok-clause-ends g c =
    drawn_run c.write_picture.result (g.S.Source.left c.args.source.now) c.in-Ok.picture
    (g.K.Sink.written c.args.sink.now) (g.K.Sink.written c.write_picture.new.sink) c.in-Ok.ensures.drawn c.write_picture.ensures

pub returns-in-Ok-clause-silent : goal.returns-in-Ok-clause-silent
returns-in-Ok-clause-silent g c = λ silent. absurd (not_silent c.write_picture.result c.in-Ok.picture
    (g.K.Sink.written c.args.sink.now) (g.K.Sink.written c.write_picture.new.sink) c.write_picture.ensures silent)

pub returns-in-Ok-clause-input_cause : goal.returns-in-Ok-clause-input_cause
returns-in-Ok-clause-input_cause g c = λ fault. absurd (not_silent c.write_picture.result c.in-Ok.picture
    (g.K.Sink.written c.args.sink.now) (g.K.Sink.written c.write_picture.new.sink) c.write_picture.ensures
    (fault_is_silent c.write_picture.result fault))

pub returns-in-Err-clause-ends : goal.returns-in-Err-clause-ends
returns-in-Err-clause-ends g c =
    unread_run c.in-Err.end (g.S.Source.left c.args.source.now)
    (g.K.Sink.written c.args.sink.now) (g.K.Sink.written c.args.sink.now) c.in-Err.ensures.undrawn
