use Rattle.std.proofs.Common.{List, ℕ, sym, subst}
use Rattle.desk.proofs.EndLemmas.{ends_at}
use Rattle.desk.proofs.SessionLemmas.{after_reply}
use Rattle.desk.specs.Answering.{told_bytes}
use Rattle.desk.specs.Sessions.{IsServedBy}
use Rattle.devices.specs.Sinks.{AreWritten}
use Rattle.desk.proofs.sessions.serve_next.Goals as goal

pub returns-in-Ok-clause-goes_on : goal.returns-in-Ok-clause-goes_on
returns-in-Ok-clause-goes_on g c = λ x left written u.
    after_reply g.A.Asked.answers x c.args.asked.now c.reply_on.new.asked c.args.incoming.now c.next-message.new.self
    c.next-message.result (told_bytes c.in-Ok.told c.reply_on.new.texts.reply) c.in-Ok.ensures.replied
    c.put_all.result c.end_unless.result
    left (g.S.Source.left c.args.source.now) (g.S.Source.left c.next-message.new.source)
    written (g.K.Sink.written c.args.sink.now) (g.K.Sink.written c.put_all.new.sink)
    c.end_unless.ensures u c.next-message.ensures.answer c.next-message.ensures.limit c.next-message.ensures.block
    (subst (λ (b : List ℕ). AreWritten (g.K.Sink.written c.args.sink.now) b (g.K.Sink.written c.put_all.new.sink) c.put_all.result)
    c.bytes.ensures c.put_all.ensures.written)

pub returns-in-Err-clause-goes_on : goal.returns-in-Err-clause-goes_on
returns-in-Err-clause-goes_on g c = λ x left written u.
    subst (λ now. IsServedBy g.A.Asked.answers x now c.finish.result left (g.S.Source.left c.next-message.new.source) written (g.K.Sink.written c.finish.new.sink))
    (sym c.in-Err.ensures.kept)
    (ends_at g.A.Asked.answers x c.args.asked.now c.args.incoming.now c.next-message.new.self
    left (g.S.Source.left c.args.source.now) (g.S.Source.left c.next-message.new.source) written (g.K.Sink.written c.args.sink.now)
    c.next-message.result c.in-Err.end c.finish.result (g.K.Sink.written c.finish.new.sink)
    c.in-Err.ensures.ended c.finish.ensures.told u c.next-message.ensures.answer c.next-message.ensures.within c.next-message.ensures.needed)
