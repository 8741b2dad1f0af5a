-- Where room was wanting, nothing was asked of the disk.
use Rattle.std.specs.Prelude.{◌≡◌, [], Err}
use Rattle.std.proofs.Common.{false, refl, sym, subst}
use Rattle.history.proofs.VerdictLemmas.{accepted_parts, accepts_holds}
use Rattle.journal.specs.Writing.{Lists}
use Rattle.office.specs.Edits.{EditCalls, IsTaken}
use Rattle.office.specs.declared.offices.Accepted.{Accepted}
use Rattle.office_inputs.specs.declared.refusals.Refusal.TheVariants.{NoMemory}
use Rattle.office.proofs.ClaimLemmas.{claims_behind}
use Rattle.office.proofs.RefusedLemmas.{lists_none}
use Rattle.office.proofs.offices.Office.keep_judged.Goals as goal

pub prepare-requires-clause-new : goal.prepare-requires-clause-new
prepare-requires-clause-new g c = (accepted_parts c.args.self.now.register.history c.args.piece.edit c.requires.verdict).new

pub prepare-requires-clause-holds : goal.prepare-requires-clause-holds
prepare-requires-clause-holds g c = accepts_holds c.args.self.now.register.history c.args.piece.edit c.requires.verdict

pub returns-in_default-clause-calls : goal.returns-in_default-clause-calls
returns-in_default-clause-calls g c =
    let old = c.args.self.now in
    subst (λ (d : g.row.D.Denot). Lists (g.D.Disk.content old.disk) (g.D.Disk.calls old.disk) (g.D.Disk.calls d) (g.D.Disk.faults d)
    (EditCalls old.register.history c.args.piece.edit c.prepare.new.self.register.history (Err NoMemory)))
    (sym c.prepare.ensures.disk)
    (lists_none (g.D.Disk.content old.disk) (g.D.Disk.calls old.disk) (g.D.Disk.faults old.disk) (λ calls. calls ≡ []) refl)

-- the claims behind the edit
pub returns-clause-claims : goal.returns-clause-claims
returns-clause-claims g c =
    claims_behind c.args.self.now.register c.prepare.new.self.register c.keep_and_accept.new.self.register c.args.piece.edit
    (λ (told : Accepted). IsTaken c.prepare.new.self.register.history c.args.piece.edit c.keep_and_accept.new.self.register.history told.number false)
    c.keep_and_accept.result c.prepare.ensures.claims c.prepare.ensures.history c.keep_and_accept.ensures.accepted c.keep_and_accept.ensures.claims
    c.keep_and_accept.ensures.fault_claims
