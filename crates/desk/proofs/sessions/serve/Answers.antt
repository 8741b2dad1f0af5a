use Rattle.std.proofs.Common.{◌≡◌, [], Option, sym, ap, subst, arith}
use Rattle.desk.proofs.SessionLemmas.{begins, none_begun}
use Rattle.desk.specs.Sessions.{GoesOn, IsUnderWay}
use Rattle.desk.specs.declared.sessions.SessionEnd.{SessionEnd}
use Rattle.wire.specs.Incoming.{Held, taken}
use Rattle.desk.proofs.sessions.serve.Goals as goal

pub returns-in-Some-clause-served : goal.returns-in-Some-clause-served
returns-in-Some-clause-served g c =
    subst (λ (end : Option SessionEnd). GoesOn g.A.Asked.answers c.args.asked.now c.serve_next-end.new.asked end
    c.serve_next-end.new.incoming (g.S.Source.left c.args.source.now) (g.S.Source.left c.serve_next-end.new.source)
    (g.K.Sink.written c.args.sink.now) (g.K.Sink.written c.serve_next-end.new.sink)) c.in-Some.is
    (c.serve_next-end.ensures.goes_on c.args.asked.now (g.S.Source.left c.args.source.now) (g.K.Sink.written c.args.sink.now)
    c.loop-end.invariant.under_way)

pub loop-end-preserved : goal.loop-end-preserved
loop-end-preserved g c = record {
  under_way =
      subst (λ (end : Option SessionEnd). GoesOn g.A.Asked.answers c.args.asked.now c.serve_next-end.new.asked end
      c.serve_next-end.new.incoming (g.S.Source.left c.args.source.now) (g.S.Source.left c.serve_next-end.new.source)
      (g.K.Sink.written c.args.sink.now) (g.K.Sink.written c.serve_next-end.new.sink)) c.in_default-end.is
      (c.serve_next-end.ensures.goes_on c.args.asked.now (g.S.Source.left c.args.source.now) (g.K.Sink.written c.args.sink.now)
      c.loop-end.invariant.under_way);
  ready = c.serve_next-end.ensures.ready;
  limit = c.serve_next-end.ensures.limit;
  input_counted = omega (arith, c.loop-end.invariant.input_counted, c.serve_next-end.ensures.input_counted);
  output_counted = omega (arith, c.loop-end.invariant.output_counted, c.serve_next-end.ensures.output_counted);
}

pub loop-end-init : goal.loop-end-init
loop-end-init g c =
    let left = g.S.Source.left c.args.source.now in
    let written = g.K.Sink.written c.args.sink.now in
    let start : c.in-Ok-new.incoming ≡ record { ahead = []; offset = 0 } = c.in-Ok-new.ensures in
    let none : taken c.in-Ok-new.incoming ≡ 0 = ap taken start in
    record {
      under_way =
          subst (λ (held : Held). IsUnderWay g.A.Asked.answers c.args.asked.now c.args.asked.now held left left written written) (sym start)
          (begins g.A.Asked.answers c.args.asked.now left written);
      ready = c.requires;
      limit = omega arith;
      input_counted = omega arith;
      output_counted = omega arith;
    }

pub returns-in_default-clause-served : goal.returns-in_default-clause-served
returns-in_default-clause-served g c =
    none_begun g.A.Asked.answers c.args.asked.now (g.S.Source.left c.args.source.now) (g.K.Sink.written c.args.sink.now)

pub returns-in_default-new-clause-served : goal.returns-in_default-new-clause-served
returns-in_default-new-clause-served g c =
    none_begun g.A.Asked.answers c.args.asked.now (g.S.Source.left c.args.source.now) (g.K.Sink.written c.args.sink.now)

pub returns-in_default-new-2-clause-served : goal.returns-in_default-new-2-clause-served
returns-in_default-new-2-clause-served g c =
    none_begun g.A.Asked.answers c.args.asked.now (g.S.Source.left c.args.source.now) (g.K.Sink.written c.args.sink.now)
