use Rattle.serving.proofs.TakingLemmas.{taken}
use Rattle.serving.proofs.taking.take_in.Goals as goal

pub returns-clause-taken : goal.returns-clause-taken
returns-clause-taken g c = λ start came tasked.
    let h = c.wait_for-other.ensures.ended start came tasked in let j = c.join.ensures in
    taken c.args.lock.now start came c.args.number c.args.pass h.0 c.wait_for-other.result.0 c.join.result (g.L.Doors.told c.args.doors.now) (g.L.Doors.told c.take_back.new.self)
    (g.L.Doors.ends c.wait_for-other.result.1) h.1 h.2 j.share j.begins.0 j.begins.1 j.tally c.take_back.ensures.back
