-- What is written of a journal that was opened, or why none is.
use Rattle.std.proofs.Common.{List, ℕ, sym, subst, ◌∙◌}
use Rattle.ledger.proofs.RunLemmas.{refused_ends, refused_no_input, refused_no_output, same_bytes}
use Rattle.ledger.specs.Runs.{EndsBy}
use Rattle.ledger.specs.declared.runs.RunEnd.{RunEnd}
use Rattle.ledger.proofs.runs.write_journal.Goals as goal

pub returns-in-Ok-clause-ends : goal.returns-in-Ok-clause-ends
returns-in-Ok-clause-ends g c =
    subst (λ (t : List ℕ). EndsBy c.write_opened.result c.args.form c.args.choice.now t (g.K.Sink.written c.args.sink.now) (g.K.Sink.written c.write_opened.new.sink))
    (same_bytes c.in-Ok.opening.ahead.disk.bytes c.new.result.bytes c.args.text c.in-Ok.ensures.same c.new.ensures) c.write_opened.ensures.ends

pub returns-in-Err-clause-ends : goal.returns-in-Err-clause-ends
returns-in-Err-clause-ends g c =
    let w = g.K.Sink.written c.args.sink.now in
    subst (λ (end : RunEnd). EndsBy end c.args.form c.args.choice.now c.args.text w w) (sym c.end_refused.ensures)
    (refused_ends c.in-Err.refused.fault c.args.form c.args.choice.now c.new.result.bytes c.args.text _ _ w c.new.ensures c.in-Err.ensures.refused)

pub returns-in-Err-clause-input : goal.returns-in-Err-clause-input
returns-in-Err-clause-input g c = λ e. refused_no_input c.in-Err.refused.fault (sym c.end_refused.ensures ∙ e)

pub returns-in-Err-clause-output_cause : goal.returns-in-Err-clause-output_cause
returns-in-Err-clause-output_cause g c = λ e. absurd (refused_no_output c.in-Err.refused.fault (sym c.end_refused.ensures ∙ e))
