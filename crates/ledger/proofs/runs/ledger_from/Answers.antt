-- A journal that was read whole is written, or nothing is.
use Rattle.std.proofs.Common.{Err, ap, sym, subst, ◌∙◌}
use Rattle.ledger.proofs.RunLemmas.{unread_ends, unread_failed, unread_no_output, whole_ends_run}
use Rattle.ledger.specs.Runs.{Ends}
use Rattle.ledger.specs.declared.runs.RunEnd.{RunEnd}
use Rattle.whole_inputs.specs.declared.inputs.NotRead.{NotRead}
use Rattle.ledger.proofs.runs.ledger_from.Goals as goal

pub returns-in-Ok-clause-ends : goal.returns-in-Ok-clause-ends
returns-in-Ok-clause-ends g c =
    whole_ends_run c.write_journal.result c.args.form c.args.choice.now (g.S.Source.left c.args.source.now) (g.S.Source.left c.read_whole.new.source) c.in-Ok.text
    (g.K.Sink.written c.args.sink.now) (g.K.Sink.written c.write_journal.new.sink) c.in-Ok.ensures.whole c.write_journal.ensures.ends

pub returns-in-Ok-clause-input_cause : goal.returns-in-Ok-clause-input_cause
returns-in-Ok-clause-input_cause g c = λ e. absurd (c.write_journal.ensures.input e)

pub returns-in-Err-clause-ends : goal.returns-in-Err-clause-ends
returns-in-Err-clause-ends g c =
    subst (λ (end : RunEnd). Ends end c.args.form c.args.choice.now (g.S.Source.left c.args.source.now) (g.K.Sink.written c.args.sink.now) (g.K.Sink.written c.args.sink.now)) (sym c.end_unread.ensures)
    (unread_ends c.in-Err.error c.args.form c.args.choice.now (g.S.Source.left c.args.source.now) (g.K.Sink.written c.args.sink.now) (λ e. c.in-Err.ensures.too_long (ap (λ (x : NotRead). Err x) e)))

pub returns-in-Err-clause-input_cause : goal.returns-in-Err-clause-input_cause
returns-in-Err-clause-input_cause g c = λ e. c.in-Err.ensures.cause (ap (λ (x : NotRead). Err x) (unread_failed c.in-Err.error (sym c.end_unread.ensures ∙ e)))

pub returns-in-Err-clause-output_cause : goal.returns-in-Err-clause-output_cause
returns-in-Err-clause-output_cause g c = λ e. absurd (unread_no_output c.in-Err.error (sym c.end_unread.ensures ∙ e))
