use Rattle.std.specs.Prelude.{◌≡◌, ◌+◌, ◌-◌, ◌^◌, ◌++◌, All, List, length}
use Rattle.std.specs.List.{concat}
use Rattle.std.proofs.Common.{rules, sym, ap, ◌∙◌, subst, arith}
use Rattle.std.proofs.lemmas.List.Elements.{All-weaker}
use mathlib.Core.List.{IsPrefix}
use Rattle.devices.specs.Faults.{Rose}
use Rattle.serving.specs.Crews.{IsWorkIn}
use Rattle.serving.proofs.BesideLemmas.{beside}
use Rattle.serving.proofs.CrewLemmas.{work_later}
use Rattle.serving.proofs.TakingLemmas.{as_many}
use Rattle.shared_office.specs.Entries.{with_ending}
use Rattle.shared_office.specs.Passing.{listed}
use Rattle.shared_office.specs.declared.entries.Entry.{Entry}
use Rattle.turnstile.proofs.ListLemmas.{prefix_on}
use Rattle.turnstile.specs.Passes.{first_value, seen, share, tally}
use Rattle.turnstile.specs.Places.{places, times}
use Rattle.serving.proofs.whole.serve_beside.Goals as goal

pub take_in_all-pass-requires-clause-count : goal.take_in_all-pass-requires-clause-count
take_in_all-pass-requires-clause-count g c κs within =
    let t = c.take_connections-pass.ensures.pass c.args.lock.now c.requires.locks.1 c.requires.pass in
    let e = as_many _ (g.L.Doors.told c.take_connections-pass.new.doors).given c.take_connections-pass.new.tasks.items t.1 in
    search (rules, e)

pub take_in_all-pass-requires-clause-few : goal.take_in_all-pass-requires-clause-few
take_in_all-pass-requires-clause-few g c κs within =
    let a = c.take_connections-pass.ensures.few in let b = c.requires.connections in omega (arith, a, b)

pub take_in_all-pass-requires-clause-tasks : goal.take_in_all-pass-requires-clause-tasks
take_in_all-pass-requires-clause-tasks g c κs within =
    (seen c.args.pass, (c.take_connections-pass.ensures.pass c.args.lock.now c.requires.locks.1 c.requires.pass).1)

pub take_in_all-pass-requires-clause-out : goal.take_in_all-pass-requires-clause-out
take_in_all-pass-requires-clause-out g c κs within = λ n some.
    c.take_connections-pass.ensures.back n ∙ (g.met.L.Doors g.world.𝓛 g.world.𝓜 g.world.𝓡 ((λ s x. x), (λ x. x), (λ x. x), λ x. x)).only_given c.args.doors.now n (let e = ap length c.requires.none in omega (arith, e, some))

pub returns-clause-share : goal.returns-clause-share
returns-clause-share g c =
    let a = c.requires.share in let b = c.take_connections-pass.ensures.share in let d = c.take_in_all-pass.ensures.share in
    let e = c.end-pass.ensures.held.1.share_is in let f = c.finish_workers-pass.ensures.joined.share_is in let h = c.glance.ensures.share in
    omega (arith, a, b, d, e, f, h)

pub returns-clause-begins : goal.returns-clause-begins
returns-clause-begins g c =
    let e = c.end-pass.ensures.held in
    let left : IsPrefix (seen c.end-pass.result) (seen c.glance.new.pass) =
    prefix_on (seen c.end-pass.result) (seen c.finish_workers-pass.result) (seen c.glance.new.pass) c.finish_workers-pass.ensures.joined.begins c.glance.ensures.begins in
    let held : IsPrefix e.0 (seen c.end-pass.result) = subst (λ (l : List Entry). IsPrefix e.0 l) (sym e.1.seen_is) e.1.grows in
    prefix_on (seen c.args.pass) (seen c.take_connections-pass.result.0) (seen c.glance.new.pass) c.take_connections-pass.ensures.begins
    (prefix_on (seen c.take_connections-pass.result.0) (seen c.take_in_all-pass.result) (seen c.glance.new.pass) c.take_in_all-pass.ensures.begins
    (prefix_on (seen c.take_in_all-pass.result) e.0 (seen c.glance.new.pass) e.1.begins (prefix_on e.0 (seen c.end-pass.result) (seen c.glance.new.pass) held left)))

pub returns-clause-all : goal.returns-clause-all
returns-clause-all g c = λ told.
    let t = c.take_connections-pass.ensures.pass c.args.lock.now c.requires.locks.1 c.requires.pass in
    let n = as_many _ (g.L.Doors.told c.take_connections-pass.new.doors).given c.take_connections-pass.new.tasks.items t.1 in
    let all = c.take_connections-pass.ensures.all told in let same = ap length c.take_in_all-pass.ensures.given in
    (search (rules, n, all, same), c.take_in_all-pass.ensures.counted ∙ all.1)

pub returns-clause-failed : goal.returns-clause-failed
returns-clause-failed g c = λ told.
    let t = c.take_connections-pass.ensures.pass c.args.lock.now c.requires.locks.1 c.requires.pass in
    let n = as_many _ (g.L.Doors.told c.take_connections-pass.new.doors).given c.take_connections-pass.new.tasks.items t.1 in
    let failed = c.take_connections-pass.ensures.failed told in let same = ap length c.take_in_all-pass.ensures.given in
    (search (rules, n, failed, same), subst (λ now. Rose (g.L.Doors.faults c.args.doors.now) now) (sym c.take_in_all-pass.ensures.counted) failed.1)

pub returns-clause-served : goal.returns-clause-served
returns-clause-served g c =
    let lock = c.args.lock.now in
    let t = c.take_connections-pass.ensures.pass lock c.requires.locks.1 c.requires.pass in
    let h = c.take_in_all-pass.ensures.taken (seen c.args.pass) t.1 in
    let e = c.end-pass.ensures.held in
    let j = c.finish_workers-pass.ensures.joined in
    let gl = c.glance.ensures in
    let before = seen c.args.pass in
    let after = seen c.glance.new.pass in
    let first = length (listed (first_value lock)) in
    let shares : share c.finish_workers-pass.result ≡ 2 ^ 32 =
    (let a = c.requires.share in let b = c.take_connections-pass.ensures.share in let d = c.take_in_all-pass.ensures.share in
    let k = e.1.share_is in let f = j.share_is in omega (arith, a, b, d, k, f)) in
    beside lock (seen c.args.pass) (seen c.take_in_all-pass.result) e.0 after (tally c.args.pass) (tally c.glance.new.pass)
    (g.L.Doors.told c.take_in_all-pass.new.doors).given (g.L.Doors.told c.take_in_all-pass.new.doors).back h.0 j.workers c.args.workers first c.requires.open
    c.requires.pass.1.within c.requires.pass.1.begun j.count_is
    (prefix_on (seen c.args.pass) (seen c.take_connections-pass.result.0) (seen c.take_in_all-pass.result) c.take_connections-pass.ensures.begins c.take_in_all-pass.ensures.begins)
    e.1.begins
    (subst (λ (l : List Entry). IsPrefix l after) e.1.seen_is (prefix_on (seen c.end-pass.result) (seen c.finish_workers-pass.result) after j.begins gl.begins))
    h.2
    (All-weaker (IsWorkIn lock before (seen c.finish_workers-pass.result)) (IsWorkIn lock before after)
    (work_later lock before (seen c.finish_workers-pass.result) after gl.begins) j.workers
    (subst (λ (l : List Entry). All (IsWorkIn lock l (seen c.finish_workers-pass.result)) j.workers) c.requires.begun j.work))
    (gl.tally
    ∙ (j.tally_is ∙ ap (λ l. l ++ concat j.workers)
    (e.1.tally_is ∙ ap (λ l. l ++ places (length e.0) (length (with_ending e.0) - length e.0)) (h.1 ∙ ap (λ l. l ++ concat h.0) c.take_connections-pass.ensures.tally))))
    (λ x. ap (λ l. times x l) gl.tally ∙ (gl.whole shares x ∙ ap (λ n. times x (places first (n - first))) gl.length))
