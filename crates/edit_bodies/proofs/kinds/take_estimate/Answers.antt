use Rattle.std.proofs.Common.{◌≡◌, ℤ, Ok, Err, refl, rules}
use Rattle.edit_bodies.proofs.ChainLemmas.{read_on, stopped, same_answer}
use Rattle.edit_bodies.proofs.kinds.take_estimate.Goals as goal
use Rattle.edit_bodies.specs.Grammars.{day_of, discharge_of}
use Rattle.edit_bodies.specs.Kinds.{row}
use Rattle.edit_bodies.specs.Members.{Reader, ◌>>=◌, done, required}
use Rattle.edit_bodies.specs.Trees.{left}
use Rattle.edits.specs.declared.kinds.Kind.TheVariants as kinds
use Rattle.edit_bodies.specs.declared.members.Member.TheVariants.{Day, Discharge}
use Rattle.edits.specs.declared.content.What.{What}
use Rattle.edits.specs.declared.content.What.TheVariants.{PutEstimate}

-- what is read after each member
abbrev after_discharge : ℤ → ℤ → Reader What
after_discharge day discharge = done (PutEstimate (record { day = day; discharge = discharge }))

abbrev after_day : ℤ → Reader What
after_day day = required Discharge discharge_of >>= after_discharge day

pub returns-in_err-day-clause-read : goal.returns-in_err-day-clause-read
returns-in_err-day-clause-read c =
    let same : c.from_residual.result ≡ Err c.in_err-day.field-0.0 = search rules in
    same_answer (row kinds.PutEstimate) (left c.args.fields.now) (left c.take_day.new.fields) c.in_err-day.field-0.0 c.from_residual.result same
    (stopped (required Day day_of) after_day (left c.args.fields.now) (left c.take_day.new.fields) (left c.take_day.new.fields) c.in_err-day.field-0.0 c.in_err-day.ensures)

pub returns-in_err-discharge-clause-read : goal.returns-in_err-discharge-clause-read
returns-in_err-discharge-clause-read c =
    let same : c.from_residual-in_err-discharge.result ≡ Err c.in_err-discharge.field-0.0 = search rules in
    same_answer (row kinds.PutEstimate) (left c.args.fields.now) (left c.take_discharge.new.fields) c.in_err-discharge.field-0.0 c.from_residual-in_err-discharge.result same
    (read_on (required Day day_of) after_day (left c.args.fields.now) (left c.take_day.new.fields) (left c.take_discharge.new.fields) c.in_ok-day.day (Err c.in_err-discharge.field-0.0) c.in_ok-day.ensures
    (stopped (required Discharge discharge_of) (after_discharge c.in_ok-day.day) (left c.take_day.new.fields) (left c.take_discharge.new.fields) (left c.take_discharge.new.fields) c.in_err-discharge.field-0.0 c.in_err-discharge.ensures.read))

pub returns-clause-read : goal.returns-clause-read
returns-clause-read c =
    (read_on (required Day day_of) after_day (left c.args.fields.now) (left c.take_day.new.fields) (left c.take_discharge.new.fields) c.in_ok-day.day (Ok (PutEstimate (record { day = c.in_ok-day.day; discharge = c.in_ok-discharge.discharge }))) c.in_ok-day.ensures
    (read_on (required Discharge discharge_of) (after_discharge c.in_ok-day.day) (left c.take_day.new.fields) (left c.take_discharge.new.fields) (left c.take_discharge.new.fields) c.in_ok-discharge.discharge (Ok (PutEstimate (record { day = c.in_ok-day.day; discharge = c.in_ok-discharge.discharge }))) c.in_ok-discharge.ensures.read
    refl))
