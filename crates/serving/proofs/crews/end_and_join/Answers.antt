use Rattle.serving.proofs.CrewLemmas.{joined}
use Rattle.turnstile.specs.Passes.{seen}
use Rattle.serving.proofs.crews.end_and_join.Goals as goal

pub returns-clause-joined : goal.returns-clause-joined
returns-clause-joined g c =
    let due = c.requires.outcome in let j = c.join.ensures in
    joined c.args.lock.now (seen c.args.begun.now.value) c.args.pass due.0 c.worked-other.result.0 c.join.result _ due.1 (c.worked-other.ensures.worked due.0 due.2) j.share j.begins.0 j.begins.1
    j.tally
