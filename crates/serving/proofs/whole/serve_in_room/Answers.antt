use Rattle.std.specs.Prelude.{◌≡◌, List, ℕ}
use Rattle.std.proofs.Common.{false, ap, sym, ◌∙◌, subst}
use mathlib.Core.List.{IsPrefix}
use Rattle.serving.specs.Serving.{ServedBeside}
use Rattle.shared_office.specs.Entries.{has_ended}
use Rattle.shared_office.specs.declared.entries.Entry.{Entry}
use Rattle.turnstile.specs.Passes.{seen, tally}
use Rattle.serving.proofs.whole.serve_in_room.Goals as goal

pub serve_beside-requires-clause-open : goal.serve_beside-requires-clause-open
serve_beside-requires-clause-open g c κs within = ap has_ended c.start_workers-pass.ensures.same.0 ∙ c.requires.open

pub serve_beside-requires-clause-begun : goal.serve_beside-requires-clause-begun
serve_beside-requires-clause-begun g c κs within = c.start_workers-pass.ensures.begun ∙ sym c.start_workers-pass.ensures.same.0

pub returns-clause-begins : goal.returns-clause-begins
returns-clause-begins g c =
    subst (λ (l : List Entry). IsPrefix l (seen c.serve_beside.result.0)) c.start_workers-pass.ensures.same.0 c.serve_beside.ensures.begins

pub returns-clause-served : goal.returns-clause-served
returns-clause-served g c =
    let same = c.start_workers-pass.ensures.same in let told = g.L.Doors.told c.serve_beside.new.doors in
    subst (λ (l : List Entry). ServedBeside c.args.lock.now c.args.workers l (seen c.serve_beside.result.0) (tally c.args.pass) (tally c.serve_beside.result.0) told.given told.back) same.0
    (subst (λ (t : List ℕ). ServedBeside c.args.lock.now c.args.workers (seen c.start_workers-pass.result.0) (seen c.serve_beside.result.0) t (tally c.serve_beside.result.0) told.given
    told.back) same.1 c.serve_beside.ensures.served)
