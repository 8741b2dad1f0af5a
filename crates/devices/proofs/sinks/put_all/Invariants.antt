use Rattle.std.proofs.Common.{◌≡◌, ◌++◌, length, List, ℕ, Some, IfSome}
use Rattle.devices.proofs.sinks.put_all.Given as goal

-- a front of the bytes was put, and the count of faults stands as it was
abbrev pub invariant-loop-rest : goal.invariant-loop-rest
invariant-loop-rest g l =
    let written = g.K.Sink.written in
    let faults = g.K.Sink.faults in
    record {
      put : IfSome (written l.fn.sink) (λ before. (part : List ℕ) × (written l.sink ≡ Some (before ++ part)) × (l.fn.bytes ≡ part ++ l.rest));
      done : faults l.sink ≡ faults l.fn.sink;
    }

abbrev pub decreases-loop-rest : goal.decreases-loop-rest
decreases-loop-rest g l = length l.rest
