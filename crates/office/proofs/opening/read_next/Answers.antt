-- One record read, and its edit accepted.
use Rattle.std.specs.Prelude.{◌≡◌, ◌++◌, ◌∷◌, [], is_some, Err}
use Rattle.std.proofs.Common.{rules, arith, ap, sym, subst, ◌∙◌}
use Rattle.journal.specs.Reading.{HasRead}
use Rattle.journal.specs.declared.opening.OpenFault.{OpenFault}
use Rattle.office.proofs.ReplayLemmas.{format_reopened, last_holds, read_fault, read_push, refused_at, reopened_again}
use Rattle.records.specs.Payloads.{Holds}
use Rattle.records.specs.declared.formats.Format.{Format}
use Rattle.office.proofs.opening.read_next.Goals as goal

pub readmit-requires-clause-opening : goal.readmit-requires-clause-opening
readmit-requires-clause-opening g c =
    reopened_again c.args.register.now.history c.args.opening.now.format c.requires.0 c.requires.1.reopened

pub readmit-requires-clause-holds : goal.readmit-requires-clause-holds
readmit-requires-clause-holds g c =
    let h = c.requires.1 in
    let read : HasRead (c.requires.0 ++ c.in-Some.piece ∷ []) c.next.new.self = rw c.in-Some.is at c.in_ok-piece.ensures.reads c.requires.0 h.read in
    let same : c.args.register.now.history.format ≡ c.next.new.self.format =
    format_reopened c.args.register.now.history c.args.register.now.history.limits c.args.opening.now.format c.requires.0 h.reopened
    ∙ sym c.next.ensures.format in
    subst (λ (f : Format). Holds f c.in-Some.piece.edit.comment) (sym same) (last_holds c.next.new.self.format c.requires.0 c.in-Some.piece read.grammar)

pub returns-in_err-piece-clause-refused : goal.returns-in_err-piece-clause-refused
returns-in_err-piece-clause-refused g c =
    let e = c.in_err-piece.ensures in
    let h = c.requires.1 in
    let told = read_fault c.args.register.now.history c.requires.0 c.args.opening.now c.next.new.self c.next.ensures.format h.reopened
    c.a_history_is_legal.ensures h.read c.in_err-piece.field-0.0 (e.reads c.requires.0 h.read) (λ f. e.cause (ap (λ (x : OpenFault). Err x) f))
    (λ at f. e.damaged at (ap (λ (x : OpenFault). Err x) f)) in
    let same : c.from_residual.result ≡ Err c.in_err-piece.field-0.0 = search rules in
    rw same told

pub returns-in-Ok-clause-reads : goal.returns-in-Ok-clause-reads
returns-in-Ok-clause-reads g c =
    let r = c.in_ok-piece.ensures in
    λ pieces h. (
      c.in-Some.piece,
      read_push pieces c.args.register.now c.readmit.new.self c.args.opening.now c.next.new.self c.next.ensures.format c.in-Some.piece h
          (rw c.in-Some.is at r.reads pieces h.read) c.in-Ok.ensures.history c.in-Ok.ensures.claims,
    )

pub returns-in-Ok-clause-within : goal.returns-in-Ok-clause-within
returns-in-Ok-clause-within g c =
    λ e.
    let r = c.in_ok-piece.ensures in
    let place : c.next.new.self.last ≡ c.args.opening.now.gate = rw c.in-Some.is at r.offset in
    let gate = c.offset-gate.ensures in
    let fits = c.offset-gate.type_inv in
    omega arith

pub returns-in-Err-Refused-clause-refused : goal.returns-in-Err-Refused-clause-refused
returns-in-Err-Refused-clause-refused g c =
    let r = c.in_ok-piece.ensures in
    let h = c.requires.1 in
    let read : HasRead (c.requires.0 ++ c.in-Some.piece ∷ []) c.next.new.self = rw c.in-Some.is at r.reads c.requires.0 h.read in
    let place : c.next.new.self.last ≡ c.args.opening.now.gate = rw c.in-Some.is at r.offset in
    refused_at c.args.register.now.history c.requires.0 c.args.opening.now c.next.new.self c.next.ensures.format h.reopened
    c.a_history_is_legal.ensures h.read c.in-Some.piece c.offset-gate.result read (c.offset-gate.ensures ∙ place)
    (ap is_some (rw c.in-Err-Refused.field-0-is at c.in-Err-Refused.ensures.refused))
