use Rattle.std.specs.Io.KnownBytes.{Keeps}
use Rattle.devices.proofs.standard.write_once.Given as goal

abbrev pub invariant-tries : goal.invariant-tries
invariant-tries g l = Keeps (g.W.Write.contents l.fn.writer) (g.W.Write.contents l.writer)
