use Rattle.std.proofs.Common.{◌≡◌, ℤ, Ok, Err, refl, rules}
use Rattle.edit_bodies.proofs.ChainLemmas.{read_on, stopped, same_answer}
use Rattle.edit_bodies.proofs.kinds.take_decided.Goals as goal
use Rattle.edit_bodies.specs.Grammars.{day_of, last_day_of, decision_of}
use Rattle.edit_bodies.specs.Kinds.{row}
use Rattle.edit_bodies.specs.Members.{Reader, ◌>>=◌, done, required}
use Rattle.edit_bodies.specs.Trees.{left}
use Rattle.edits.specs.declared.kinds.Kind.TheVariants as kinds
use Rattle.edit_bodies.specs.declared.members.Member.TheVariants.{From, To, Decision}
use Rattle.edits.specs.declared.content.What.{What}
use Rattle.edits.specs.declared.content.What.TheVariants.{Decide}
use Rattle.edits.specs.declared.decisions.Decision as decisions

-- what is read after each member
abbrev after_decision : ℤ → ℤ → decisions.Decision → Reader What
after_decision from to decision = done (Decide from to decision)

abbrev after_to : ℤ → ℤ → Reader What
after_to from to = required Decision decision_of >>= after_decision from to

abbrev after_from : ℤ → Reader What
after_from from = required To (last_day_of from) >>= after_to from

pub returns-in_err-from-clause-read : goal.returns-in_err-from-clause-read
returns-in_err-from-clause-read c =
    let same : c.from_residual.result ≡ Err c.in_err-from.field-0.0 = search rules in
    same_answer (row kinds.Decide) (left c.args.fields.now) (left c.take_day.new.fields) c.in_err-from.field-0.0 c.from_residual.result same
    (stopped (required From day_of) after_from (left c.args.fields.now) (left c.take_day.new.fields) (left c.take_day.new.fields) c.in_err-from.field-0.0 c.in_err-from.ensures)

pub returns-in_err-to-clause-read : goal.returns-in_err-to-clause-read
returns-in_err-to-clause-read c =
    let same : c.from_residual-in_err-to.result ≡ Err c.in_err-to.field-0.0 = search rules in
    same_answer (row kinds.Decide) (left c.args.fields.now) (left c.take_last_day.new.fields) c.in_err-to.field-0.0 c.from_residual-in_err-to.result same
    (read_on (required From day_of) after_from (left c.args.fields.now) (left c.take_day.new.fields) (left c.take_last_day.new.fields) c.in_ok-from.from (Err c.in_err-to.field-0.0) c.in_ok-from.ensures
    (stopped (required To (last_day_of c.in_ok-from.from)) (after_to c.in_ok-from.from) (left c.take_day.new.fields) (left c.take_last_day.new.fields) (left c.take_last_day.new.fields) c.in_err-to.field-0.0 c.in_err-to.ensures.read))

pub returns-in_err-decision-clause-read : goal.returns-in_err-decision-clause-read
returns-in_err-decision-clause-read c =
    let same : c.from_residual-in_err-decision.result ≡ Err c.in_err-decision.field-0.0 = search rules in
    same_answer (row kinds.Decide) (left c.args.fields.now) (left c.take_decision.new.fields) c.in_err-decision.field-0.0 c.from_residual-in_err-decision.result same
    (read_on (required From day_of) after_from (left c.args.fields.now) (left c.take_day.new.fields) (left c.take_decision.new.fields) c.in_ok-from.from (Err c.in_err-decision.field-0.0) c.in_ok-from.ensures
    (read_on (required To (last_day_of c.in_ok-from.from)) (after_to c.in_ok-from.from) (left c.take_day.new.fields) (left c.take_last_day.new.fields) (left c.take_decision.new.fields) c.in_ok-to.to (Err c.in_err-decision.field-0.0) c.in_ok-to.ensures.read
    (stopped (required Decision decision_of) (after_decision c.in_ok-from.from c.in_ok-to.to) (left c.take_last_day.new.fields) (left c.take_decision.new.fields) (left c.take_decision.new.fields) c.in_err-decision.field-0.0 c.in_err-decision.ensures)))

pub returns-clause-read : goal.returns-clause-read
returns-clause-read c =
    (read_on (required From day_of) after_from (left c.args.fields.now) (left c.take_day.new.fields) (left c.take_decision.new.fields) c.in_ok-from.from (Ok (Decide c.in_ok-from.from c.in_ok-to.to c.in_ok-decision.decision)) c.in_ok-from.ensures
    (read_on (required To (last_day_of c.in_ok-from.from)) (after_to c.in_ok-from.from) (left c.take_day.new.fields) (left c.take_last_day.new.fields) (left c.take_decision.new.fields) c.in_ok-to.to (Ok (Decide c.in_ok-from.from c.in_ok-to.to c.in_ok-decision.decision)) c.in_ok-to.ensures.read
    (read_on (required Decision decision_of) (after_decision c.in_ok-from.from c.in_ok-to.to) (left c.take_last_day.new.fields) (left c.take_decision.new.fields) (left c.take_decision.new.fields) c.in_ok-decision.decision (Ok (Decide c.in_ok-from.from c.in_ok-to.to c.in_ok-decision.decision)) c.in_ok-decision.ensures
    refl)))
