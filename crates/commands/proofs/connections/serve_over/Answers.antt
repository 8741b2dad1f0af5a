use Rattle.std.proofs.Common.{◌≡◌, List, length, false, refl, sym, ◌∙◌, ap, subst}
use Rattle.commands.proofs.ServingLemmas.{serves_between, serves_nobody}
use Rattle.commands.proofs.SharingLemmas.{not_ended}
use Rattle.commands.proofs.connections.serve_over.Goals as goal
use Rattle.commands.specs.Worlds.{doorway}
use Rattle.office.specs.Offices.{Officed}
use Rattle.shared_office.specs.Passages.{Passes}
use Rattle.shared_office.specs.Entries.{has_ended, history_of}
use Rattle.shared_office.specs.Passing.{Lock, begun_in, fixed_in, listed}
use Rattle.shared_office.specs.declared.entries.Entry.{Entry}
use Rattle.turnstile.specs.Passes.{first_value, seen, tally}
use Rattle.turnstile.specs.Places.{IsEachOnce}

-- there was no memory to share the office
pub returns-in-Err-clause-served : goal.returns-in-Err-clause-served
returns-in-Err-clause-served g c =
    let doors = doorway g.L.Doors c.args.doors.now in
    serves_nobody g.D.Disk c.args.options.workers c.args.options.connections doors doors c.args.office.register.history c.in-Err.office.register.history c.requires.none refl
    c.in-Err.ensures.back

pub serve_behind-pass-requires-clause-open : goal.serve_behind-pass-requires-clause-open
serve_behind-pass-requires-clause-open g c κs within =
    subst (λ (l : List Entry). has_ended l ≡ false) (sym c.in-Ok.ensures.shared.seen_is) (not_ended c.args.office.register.history.events)

pub returns-clause-served : goal.returns-clause-served
returns-clause-served g c =
    let served = c.serve_behind-pass.ensures in
    let back = c.serve_behind-pass.result.0 in
    serves_between c.args.options.workers c.args.options.connections (doorway g.L.Doors c.args.doors.now) (doorway g.L.Doors c.serve_behind-pass.new.doors)
    c.serve_behind-pass.result.1 c.args.office.register.history c.take_back.result.register.history c.in-Ok.shared.0.value c.in-Ok.shared.1 back
    c.in-Ok.ensures.shared served.begins served.ends served.served (λ memory. let nobody = served.unserved memory in (nobody.0, nobody.1))
    served.unlistened
    (c.take_back.ensures.history ∙ ap (λ (t : Lock g.row.D.Denot g.D.Disk). history_of (fixed_in t) (seen back)) c.deref.ensures)
    (subst (λ (t : Lock g.row.D.Denot g.D.Disk). IsEachOnce (length (listed (first_value t))) (length (seen back)) (tally back)) c.deref.ensures
    c.take_back.ensures.once)

pub returns-clause-passed : goal.returns-clause-passed
returns-clause-passed g c =
    let last = c.take_back.result in
    subst (λ (o : Officed g.row.D.Denot). ∥ Passes g.D.Disk o.register.history last.register.history o.disk last.disk ∥₁)
    (ap (λ (t : Lock g.row.D.Denot g.D.Disk). begun_in t) c.deref.ensures ∙ c.in-Ok.ensures.begun) c.take_back.ensures.passed
