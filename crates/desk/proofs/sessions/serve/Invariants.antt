use Rattle.std.proofs.Common.{◌-◌, ◌^◌, ◌≤◌}
use Rattle.desk.specs.Sessions.{IsUnderWay}
use Rattle.wire.specs.Incoming.{taken}
use Rattle.desk.proofs.sessions.serve.Given as goal

-- the session is under way, and counts have not fallen
abbrev pub invariant-loop-end : goal.invariant-loop-end
invariant-loop-end g l =
    let left = g.S.Source.left in
    let written = g.K.Sink.written in
    record {
      under_way : IsUnderWay g.A.Asked.answers l.fn.asked l.asked l.incoming (left l.fn.source) (left l.source) (written l.fn.sink) (written l.sink);
      ready : g.A.Asked.ready l.asked;
      limit : taken l.incoming ≤ 2 ^ 36;
      input_counted : g.S.Source.faults l.fn.source ≤ g.S.Source.faults l.source;
      output_counted : g.K.Sink.faults l.fn.sink ≤ g.K.Sink.faults l.sink;
    }

abbrev pub decreases-loop-end : goal.decreases-loop-end
decreases-loop-end g l = 2 ^ 36 - l.incoming.offset
