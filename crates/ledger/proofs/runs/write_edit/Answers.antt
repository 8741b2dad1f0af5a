-- An edit that is chosen is written, and any other is passed over.
use Rattle.std.proofs.Common.{rules, ◌≡◌, ◌∙◌, Err, true, false}
use Rattle.ledger.proofs.RunLemmas.{chosen_writes, no_text_no_output, no_text_unwritten, passed_over}
use Rattle.ledger.specs.Choices.{is_chosen}
use Rattle.ledger.proofs.runs.write_edit.Goals as goal

pub returns-then-not-has-clause-written : goal.returns-then-not-has-clause-written
returns-then-not-has-clause-written g c =
    let no : is_chosen c.args.choice.now c.args.number c.args.edit.now ≡ false = search rules in
    passed_over c.args.form c.args.choice.now c.args.number c.args.edit.now (g.K.Sink.written c.args.sink.now) no

pub returns-in_err-text-clause-unwritten : goal.returns-in_err-text-clause-unwritten
returns-in_err-text-clause-unwritten g c =
    let same : c.from_residual.result ≡ Err c.in_err-text.field-0.0 = search rules in
    rw same (no_text_unwritten c.in_err-text.field-0.0 c.args.form c.args.choice.now c.args.number c.args.edit.now (g.K.Sink.written c.args.sink.now) c.in_err-text.ensures.none)

pub returns-in_err-text-clause-output_cause : goal.returns-in_err-text-clause-output_cause
returns-in_err-text-clause-output_cause g c =
    let same : c.from_residual.result ≡ Err c.in_err-text.field-0.0 = search rules in
    rw same (λ e. absurd (no_text_no_output c.in_err-text.field-0.0 c.args.number c.args.edit.now c.in_err-text.ensures.none e))

pub returns-then-put_all-clause-written : goal.returns-then-put_all-clause-written
returns-then-put_all-clause-written g c =
    let yes : is_chosen c.args.choice.now c.args.number c.args.edit.now ≡ true = search rules in
    chosen_writes c.args.form c.args.choice.now c.args.number c.args.edit.now c.as_slice.result.now (g.K.Sink.written c.args.sink.now) (g.K.Sink.written c.put_all.new.sink) true
    yes (c.as_slice.ensures ∙ c.in_ok-text.ensures.text) c.in_ok-text.ensures.meant c.if-put_all.ensures.written

pub returns-clause-unwritten : goal.returns-clause-unwritten
returns-clause-unwritten g c =
    let yes : is_chosen c.args.choice.now c.args.number c.args.edit.now ≡ true = search rules in
    chosen_writes c.args.form c.args.choice.now c.args.number c.args.edit.now c.as_slice.result.now (g.K.Sink.written c.args.sink.now) (g.K.Sink.written c.put_all.new.sink) false
    yes (c.as_slice.ensures ∙ c.in_ok-text.ensures.text) c.in_ok-text.ensures.meant c.if-put_all.ensures.written
