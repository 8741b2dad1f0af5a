use Rattle.std.specs.Prelude.{◌≡◌, ◌+◌, vec_len}
use Rattle.std.proofs.Common.{rules, subst, arith}
use Rattle.serving.specs.Crews.{AreJoined, seen_before}
use Rattle.serving.proofs.CrewLemmas.{joined_on}
use Rattle.serving.proofs.crews.finish_workers.Goals as goal

pub returns-clause-joined : goal.returns-clause-joined
returns-clause-joined g c =
    let crew = c.requires.crew in
    let same : vec_len c.args.crew.kept + vec_len c.args.crew.tasks ≡ c.args.workers = (let a = crew.count_is in omega (arith, a)) in
    subst (λ n. AreJoined c.args.lock.now (seen_before c.args.crew) c.args.pass c.take_in.result n) same
    (joined_on c.args.lock.now (seen_before c.args.crew) c.args.pass c.end_kept-pass.result c.take_in.result (vec_len c.args.crew.kept) (vec_len c.args.crew.tasks) c.end_kept-pass.ensures.joined
    c.take_in.ensures.joined)
