use Rattle.std.specs.Prelude.{◌≡◌, ◌+◌, ◌∷◌, List, length, vec_len}
use Rattle.std.proofs.Common.{rules, ap, sym, subst, arith}
use Rattle.std.proofs.lemmas.List.Elements.{All-head, All-rest, All-same}
use Rattle.serving.specs.Crews.{AreJoined, IsDue}
use Rattle.serving.proofs.CrewLemmas.{joined_more, joined_none}
use Rattle.turnstile.specs.Passes.{seen}
use Rattle.serving.proofs.crews.end_kept.Goals as goal

pub loop-outcome-init : goal.loop-outcome-init
loop-outcome-init g c =
    let e : c.into_iter-outcome-iterator.result.rest.items ≡ c.args.kept.items = search rules in (
      tt,
      tt,
      c.requires.pass,
      All-same (IsDue c.args.lock.now (seen c.args.begun.now.value)) _ c.args.kept.items e c.requires.kept,
      (0, (let a = ap length e in omega (arith, a)), joined_none c.args.lock.now (seen c.args.begun.now.value) c.args.given),
    )

pub end_and_join-pass-requires-clause-outcome : goal.end_and_join-pass-requires-clause-outcome
end_and_join-pass-requires-clause-outcome g c =
    All-head (IsDue c.args.lock.now (seen c.args.begun.now.value)) c.in-Some.outcome c.next.new.self.rest.items
    (All-same (IsDue c.args.lock.now (seen c.args.begun.now.value)) (c.in-Some.outcome ∷ c.next.new.self.rest.items) c.loop-outcome.outcome-iterator.rest.items (sym c.in-Some.ensures.steps.0)
    c.loop-outcome.invariant.3)

pub loop-outcome-preserved : goal.loop-outcome-preserved
loop-outcome-preserved g c =
    let inv = c.loop-outcome.invariant in let k = inv.4 in (
      tt,
      tt,
      c.end_and_join-pass.ensures.pass,
      All-rest (IsDue c.args.lock.now (seen c.args.begun.now.value)) c.in-Some.outcome c.next.new.self.rest.items c.loop-outcome.outcome-iterator.rest.items c.in-Some.ensures.steps.0 inv.3,
      (
        k.0 + 1,
        (let a = k.1 in let b = ap length c.in-Some.ensures.steps.0 in omega (arith, a, b)),
        joined_more c.args.lock.now (seen c.args.begun.now.value) c.args.given c.loop-outcome.pass c.end_and_join-pass.result k.0 k.2 c.end_and_join-pass.ensures.joined,
      ),
    )

pub returns-clause-joined : goal.returns-clause-joined
returns-clause-joined g c =
    let k = c.loop-outcome.invariant.4 in
    let e : length c.loop-outcome.outcome-iterator.rest.items ≡ 0 = search rules in
    let same : k.0 ≡ vec_len c.args.kept = (let a = k.1 in omega (arith, a, e)) in
    subst (λ n. AreJoined c.args.lock.now (seen c.args.begun.now.value) c.args.given c.loop-outcome.pass n) same k.2
