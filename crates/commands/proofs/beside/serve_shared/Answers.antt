use Rattle.std.proofs.Common.{length, ◌∙◌, ap, subst}
use Rattle.commands.proofs.BesideLemmas.{served_beside, unbegun_beside}
use Rattle.commands.proofs.beside.serve_shared.Goals as goal
use Rattle.commands.specs.Beside.{ends_told}
use Rattle.commands.specs.Worlds.{sink_told, source_told}
use Rattle.office.specs.Offices.{Officed}
use Rattle.shared_office.specs.Passages.{Passes}
use Rattle.shared_office.specs.Entries.{history_of}
use Rattle.shared_office.specs.Passing.{Lock, begun_in, fixed_in, listed}
use Rattle.turnstile.specs.Passes.{first_value, seen, tally}
use Rattle.turnstile.specs.Places.{IsEachOnce}

-- there was no memory to share the office
pub returns-in-Err-clause-served : goal.returns-in-Err-clause-served
returns-in-Err-clause-served g c =
    let ends = ends_told (source_told g.S.Source c.args.input.now) (sink_told g.K.Sink c.args.output.now) in
    unbegun_beside g.D.Disk c.args.workers ends ends c.args.office.register.history c.in-Err.office.register.history c.in-Err.ensures.back

pub returns-clause-served : goal.returns-clause-served
returns-clause-served g c =
    let served = c.serve_behind-pass in
    let back = served.result.0 in
    served_beside c.args.workers (ends_told (source_told g.S.Source c.args.input.now) (sink_told g.K.Sink c.args.output.now))
    (ends_told (source_told g.S.Source served.new.input) (sink_told g.K.Sink served.new.output)) served.result.1
    c.args.office.register.history c.take_back.result.register.history c.in-Ok.shared.0.value c.in-Ok.shared.1 back
    c.in-Ok.ensures.shared served.ensures.begins served.ensures.beside
    (c.take_back.ensures.history ∙ ap (λ (t : Lock g.row.D.Denot g.D.Disk). history_of (fixed_in t) (seen back)) c.deref.ensures)
    (subst (λ (t : Lock g.row.D.Denot g.D.Disk). IsEachOnce (length (listed (first_value t))) (length (seen back)) (tally back)) c.deref.ensures
    c.take_back.ensures.once)

pub returns-clause-passed : goal.returns-clause-passed
returns-clause-passed g c =
    let last = c.take_back.result in
    subst (λ (o : Officed g.row.D.Denot). ∥ Passes g.D.Disk o.register.history last.register.history o.disk last.disk ∥₁)
    (ap (λ (t : Lock g.row.D.Denot g.D.Disk). begun_in t) c.deref.ensures ∙ c.in-Ok.ensures.begun) c.take_back.ensures.passed
