use Rattle.std.proofs.Common.{◌≡◌, false, IsSome, List, [], ◌∷◌, ◌++◌, refl, ap, sym, subst, ◌∙◌}
use Rattle.std.specs.Prelude.{None, is_some}
use Rattle.edits.specs.declared.content.Edit.{Edit}
use Rattle.history.specs.After.{MayLeaveInDoubt, leaves_doubt, left_by}
use Rattle.history.specs.Events.{Accepted, Faulted, History}
use Rattle.history.specs.Verdicts.{Accepts, record_of, verdict}
use Rattle.journal.specs.Keeping.{Holds, IsNext}
use Rattle.journal.specs.Moments.{LeavesOnly}
use Rattle.journal.specs.Writing.{Lists}
use Rattle.office.specs.Edits.{FaultCalls, IsFaulted, IsTaken}
use Rattle.office.specs.Offices.{Officed}
use Rattle.office.specs.Standing.{Stands}
use Rattle.office.specs.Stops.{IsLeftBetween}
use Rattle.office.proofs.EditLemmas.{does_fit, may_leave, stands_faulted, stands_accepted, is_faulted, is_taken, leaves_between, fault_calls_inside}
use Rattle.records.specs.Payloads.{encoded_and_closed}
use Rattle.records.specs.Sheets.{Record}
use Rattle.records.specs.declared.formats.Format.{Format}
use Rattle.office.proofs.offices.Office.keep_and_accept.Goals as goal

pub keep-requires-clause-fits : goal.keep-requires-clause-fits
keep-requires-clause-fits g c =
    let made : c.args.piece ≡ record_of c.self.inside.register.history c.args.piece.edit =
    subst (λ (o : Officed g.row.D.Denot). c.args.piece ≡ record_of o.register.history c.args.piece.edit) (sym c.self.view_is) c.requires.made in
    let next : IsNext c.self.inside.register.history.format c.args.piece c.args.bytes.now =
    subst (λ (o : Officed g.row.D.Denot). IsNext o.register.history.format c.args.piece c.args.bytes.now) (sym c.self.view_is) c.requires.next in
    does_fit c.self.inside.register.history c.self.inside.doubt c.self.inside.journal c.self.invariant c.args.piece.edit c.args.bytes.now
    (subst (λ (o : Officed g.row.D.Denot). verdict o.register.history c.args.piece.edit ≡ Accepts) (sym c.self.view_is) c.requires.verdict)
    (next.1 ∙ ap (encoded_and_closed c.self.inside.register.history.format) made)

pub keep-requires-clause-next : goal.keep-requires-clause-next
keep-requires-clause-next g c =
    let next : IsNext c.self.inside.register.history.format c.args.piece c.args.bytes.now =
    subst (λ (o : Officed g.row.D.Denot). IsNext o.register.history.format c.args.piece c.args.bytes.now) (sym c.self.view_is) c.requires.next in
    subst (λ (f : Format). IsNext f c.args.piece c.args.bytes.now) (sym c.self.invariant.format) next

-- a fault
pub fault-requires-clause-doubt : goal.fault-requires-clause-doubt
fault-requires-clause-doubt g c =
    let made : c.args.piece ≡ record_of c.self.inside.register.history c.args.piece.edit =
    subst (λ (o : Officed g.row.D.Denot). c.args.piece ≡ record_of o.register.history c.args.piece.edit) (sym c.self.view_is) c.requires.made in
    let leaves = subst (λ (p : Record). (is_some c.keep.new.doubt ≡ leaves_doubt c.in-Err.failed) × (c.keep.new.doubt ≡ left_by c.self.inside.doubt p c.in-Err.failed))
    made c.in-Err.ensures.leaves in
    subst (λ (e : Edit). MayLeaveInDoubt c.self.inside.register.history e c.keep.new.doubt) (sym c.edit.ensures)
    (may_leave c.self.inside.register.history c.self.inside.doubt c.self.inside.journal c.self.invariant c.args.piece.edit c.keep.new.doubt c.in-Err.failed leaves)

pub invariant_of-self : goal.invariant_of-self
invariant_of-self g c =
    subst (λ (h : History). Stands h c.keep.new.doubt c.keep.new.journal) (sym c.fault.ensures.history)
    (stands_faulted c.self.inside.register.history c.self.inside.doubt c.self.inside.journal c.self.invariant c.keep.new.journal c.keep.new.doubt
    c.keep.ensures.format c.in-Err.ensures.gate c.keep.ensures.limit c.keep.ensures.in_doubt c.keep.ensures.untold c.in-Err.ensures.keeps)

pub returns-in-Err-clause-fault : goal.returns-in-Err-clause-fault
returns-in-Err-clause-fault g c =
    let made : c.args.piece ≡ record_of c.self.inside.register.history c.args.piece.edit =
    subst (λ (o : Officed g.row.D.Denot). c.args.piece ≡ record_of o.register.history c.args.piece.edit) (sym c.self.view_is) c.requires.made in
    let leaves = subst (λ (p : Record). (is_some c.keep.new.doubt ≡ leaves_doubt c.in-Err.failed) × (c.keep.new.doubt ≡ left_by c.self.inside.doubt p c.in-Err.failed))
    made c.in-Err.ensures.leaves in
    let lawful = subst (λ (o : Officed g.row.D.Denot). verdict o.register.history c.args.piece.edit ≡ Accepts) (sym c.self.view_is) c.requires.verdict in
    let faulted = is_faulted c.self.inside.register.history c.self.inside.doubt c.self.inside.journal c.self.invariant c.args.piece.edit c.keep.new.doubt
    c.in-Err.failed c.in_doubt.result lawful c.in_doubt.ensures leaves in (
      c.in_doubt.result,
      refl,
      subst (λ (o : Officed g.row.D.Denot). IsFaulted o.register.history c.args.piece.edit c.fault.new.self.history c.in_doubt.result) c.self.view_is
          (subst (λ (h : History). IsFaulted c.self.inside.register.history c.args.piece.edit h c.in_doubt.result) (sym c.fault.ensures.history) faulted),
    )

pub returns-in-Err-clause-any_moment : goal.returns-in-Err-clause-any_moment
returns-in-Err-clause-any_moment g c =
    subst (λ (o : Officed g.row.D.Denot). IsSome (g.D.Disk.content o.disk)
    → LeavesOnly g.D.Disk o.disk c.keep.new.journal.disk (IsLeftBetween o.register.history c.fault.new.self.history)) c.self.view_is
    (leaves_between c.self.inside.register.history c.self.inside.doubt c.self.inside.journal c.self.invariant c.fault.new.self.history (Faulted c.keep.new.doubt)
    c.keep.new.journal.disk (ap (λ (h : History). h.events) c.fault.ensures.history) c.in-Err.ensures.any_moment)

pub returns-in-Err-clause-calls : goal.returns-in-Err-clause-calls
returns-in-Err-clause-calls g c =
    let made : c.args.piece ≡ record_of c.self.inside.register.history c.args.piece.edit =
    subst (λ (o : Officed g.row.D.Denot). c.args.piece ≡ record_of o.register.history c.args.piece.edit) (sym c.self.view_is) c.requires.made in
    let leaves = subst (λ (p : Record). (is_some c.keep.new.doubt ≡ leaves_doubt c.in-Err.failed) × (c.keep.new.doubt ≡ left_by c.self.inside.doubt p c.in-Err.failed))
    made c.in-Err.ensures.leaves in
    let lawful = subst (λ (o : Officed g.row.D.Denot). verdict o.register.history c.args.piece.edit ≡ Accepts) (sym c.self.view_is) c.requires.verdict in
    subst (λ (o : Officed g.row.D.Denot). Lists (g.D.Disk.content o.disk) (g.D.Disk.calls o.disk) (g.D.Disk.calls c.keep.new.journal.disk)
    (g.D.Disk.faults c.keep.new.journal.disk) (FaultCalls o.register.history c.args.piece.edit c.fault.new.self.history c.in_doubt.result)) c.self.view_is
    (subst (λ (h : History). Lists (g.D.Disk.content c.self.inside.journal.disk) (g.D.Disk.calls c.self.inside.journal.disk) (g.D.Disk.calls c.keep.new.journal.disk)
    (g.D.Disk.faults c.keep.new.journal.disk) (FaultCalls c.self.inside.register.history c.args.piece.edit h c.in_doubt.result)) (sym c.fault.ensures.history)
    (fault_calls_inside c.self.inside.register.history c.self.inside.doubt c.self.inside.journal c.self.invariant c.keep.new.journal.disk c.args.piece.edit
    c.keep.new.doubt c.in-Err.failed c.in_doubt.result lawful c.in_doubt.ensures leaves c.in-Err.ensures.calls))

-- the record is kept
pub invariant_of-self-2 : goal.invariant_of-self-2
invariant_of-self-2 g c =
    let made : c.args.piece ≡ record_of c.self.inside.register.history c.args.piece.edit =
    subst (λ (o : Officed g.row.D.Denot). c.args.piece ≡ record_of o.register.history c.args.piece.edit) (sym c.self.view_is) c.requires.made in
    let next : IsNext c.self.inside.register.history.format c.args.piece c.args.bytes.now =
    subst (λ (o : Officed g.row.D.Denot). IsNext o.register.history.format c.args.piece c.args.bytes.now) (sym c.self.view_is) c.requires.next in
    subst (λ (h : History). Stands h c.keep.new.doubt c.keep.new.journal) (sym c.accept.ensures.history)
    (stands_accepted c.self.inside.register.history c.self.inside.doubt c.self.inside.journal c.self.invariant c.args.piece.edit c.args.bytes.now
    c.keep.new.journal c.keep.new.doubt c.in_default.ensures.leaves (next.1 ∙ ap (encoded_and_closed c.self.inside.register.history.format) made) c.keep.ensures.format c.in_default.ensures.gate c.keep.ensures.limit c.keep.ensures.in_doubt
    c.keep.ensures.untold
    (subst (λ (p : Record). (pieces : List Record) → Holds pieces c.self.inside.doubt c.self.inside.journal → Holds (pieces ++ p ∷ []) None c.keep.new.journal)
    made c.in_default.ensures.keeps))

pub returns-clause-accepted : goal.returns-clause-accepted
returns-clause-accepted g c =
    let lawful = subst (λ (o : Officed g.row.D.Denot). verdict o.register.history c.args.piece.edit ≡ Accepts) (sym c.self.view_is) c.requires.verdict in (
      refl,
      subst (λ (o : Officed g.row.D.Denot). IsTaken o.register.history c.args.piece.edit c.accept.new.self.history c.edits.result false) c.self.view_is
          (is_taken c.self.inside.register.history c.args.piece.edit c.accept.new.self.history c.edits.result lawful c.accept.ensures.history c.edits.ensures),
    )

pub returns-clause-any_moment : goal.returns-clause-any_moment
returns-clause-any_moment g c =
    let made : c.args.piece ≡ record_of c.self.inside.register.history c.args.piece.edit =
    subst (λ (o : Officed g.row.D.Denot). c.args.piece ≡ record_of o.register.history c.args.piece.edit) (sym c.self.view_is) c.requires.made in
    subst (λ (o : Officed g.row.D.Denot). IsSome (g.D.Disk.content o.disk)
    → LeavesOnly g.D.Disk o.disk c.keep.new.journal.disk (IsLeftBetween o.register.history c.accept.new.self.history)) c.self.view_is
    (leaves_between c.self.inside.register.history c.self.inside.doubt c.self.inside.journal c.self.invariant c.accept.new.self.history (Accepted c.args.piece)
    c.keep.new.journal.disk
    (ap (λ (h : History). h.events) c.accept.ensures.history ∙ ap (λ (p : Record). c.self.inside.register.history.events ++ Accepted p ∷ []) (sym made))
    c.in_default.ensures.any_moment)
