-- One record read, and its edit written.
use Rattle.std.proofs.Common.{rules, ◌≡◌, ◌∷◌, ◌++◌, [], Err, true, length, ap, sym, subst, refl, ◌∙◌}
use Rattle.edits.specs.declared.content.Edit.{Edit}
use Rattle.journal.specs.JournalBytes.{front}
use Rattle.journal.specs.Reading.{HasEnded, HasRead}
use Rattle.journal.specs.declared.opening.OpenFault.{OpenFault}
use Rattle.ledger.proofs.RunLemmas.{gate_moves, refused_no_output, refused_stops, unwritten_stops}
use Rattle.ledger.specs.Runs.{IsUnwritten, StopsBehind, WritesEdit}
use Rattle.ledger.specs.declared.runs.RunEnd.{RunEnd}
use Rattle.records.specs.declared.formats.Format.{Format}
use Rattle.ledger.proofs.runs.write_next.Goals as goal

pub returns-in_err-write_edit-in-Ok-Some-clause-next : goal.returns-in_err-write_edit-in-Ok-Some-clause-next
returns-in_err-write_edit-in-Ok-Some-clause-next g c = λ pieces was.
    let before = g.K.Sink.written c.args.sink.now in
    let after = g.K.Sink.written c.write_edit.new.sink in
    let end = c.in_err-write_edit-in-Ok-Some.field-0.0 in
    let same : c.from_residual.result ≡ Err end = search rules in
    let read : HasRead (pieces ++ c.in-Ok-Some.piece ∷ []) c.next.new.self = rw c.in-Ok-Some.field-0-is at c.in-Ok-Some.ensures.reads pieces was in
    rw same
    (unwritten_stops end c.args.form c.args.choice.now c.args.number pieces c.in-Ok-Some.piece c.next.new.self before after read
    (subst (λ (edit : Edit). IsUnwritten end c.args.form c.args.choice.now c.args.number edit before after) c.edit.ensures c.in_err-write_edit-in-Ok-Some.ensures.unwritten))

pub returns-in_ok-write_edit-in-Ok-Some-clause-next : goal.returns-in_ok-write_edit-in-Ok-Some-clause-next
returns-in_ok-write_edit-in-Ok-Some-clause-next g c = λ pieces was.
    let before = g.K.Sink.written c.args.sink.now in
    let after = g.K.Sink.written c.write_edit.new.sink in
    let read : HasRead (pieces ++ c.in-Ok-Some.piece ∷ []) c.next.new.self = rw c.in-Ok-Some.field-0-is at c.in-Ok-Some.ensures.reads pieces was in (
      c.in-Ok-Some.piece,
      read,
      subst (λ (edit : Edit). WritesEdit c.args.form c.args.choice.now c.args.number edit before after true) c.edit.ensures c.in_ok-write_edit-in-Ok-Some.ensures.written,
    )

pub returns-in_ok-write_edit-in-Ok-Some-clause-moves : goal.returns-in_ok-write_edit-in-Ok-Some-clause-moves
returns-in_ok-write_edit-in-Ok-Some-clause-moves g c = λ e.
    let pieces = c.requires.0 in
    let read : HasRead (pieces ++ c.in-Ok-Some.piece ∷ []) c.next.new.self = rw c.in-Ok-Some.field-0-is at c.in-Ok-Some.ensures.reads pieces c.requires.1 in
    gate_moves pieces c.in-Ok-Some.piece c.args.opening.now c.next.new.self c.next.ensures.format c.requires.1 read

pub returns-in-Ok-None-clause-next : goal.returns-in-Ok-None-clause-next
returns-in-Ok-None-clause-next g c = λ pieces was.
    let both : HasRead pieces c.next.new.self × HasEnded pieces c.next.new.self = rw c.in-Ok-None.field-0-is at c.in-Ok-None.ensures.reads pieces was in
    (both.1, refl)

pub returns-in-Err-clause-next : goal.returns-in-Err-clause-next
returns-in-Err-clause-next g c = λ pieces was.
    let before = g.K.Sink.written c.args.sink.now in
    subst (λ (end : RunEnd). StopsBehind end c.args.form c.args.choice.now c.args.number pieces c.next.new.self before before) (sym c.end_refused.ensures)
    (refused_stops c.in-Err.fault c.args.form c.args.choice.now c.args.number pieces c.next.new.self before (c.in-Err.ensures.reads pieces was)
    (λ at is. c.in-Err.ensures.damaged at (ap (λ (f : OpenFault). Err f) is) ∙ was.gate ∙ ap (λ (f : Format). length (front f pieces)) (sym c.next.ensures.format)))

pub returns-in-Err-clause-output_cause : goal.returns-in-Err-clause-output_cause
returns-in-Err-clause-output_cause g c = λ e. absurd (refused_no_output c.in-Err.fault (sym c.end_refused.ensures ∙ e))
