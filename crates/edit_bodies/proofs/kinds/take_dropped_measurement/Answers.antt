use Rattle.std.proofs.Common.{◌≡◌, ℕ, Ok, Err, refl, rules}
use Rattle.edit_bodies.proofs.ChainLemmas.{read_on, stopped, same_answer}
use Rattle.edit_bodies.proofs.kinds.take_dropped_measurement.Goals as goal
use Rattle.edit_bodies.specs.Grammars.{measurement_number_of}
use Rattle.edit_bodies.specs.Kinds.{row}
use Rattle.edit_bodies.specs.Members.{Reader, done, required}
use Rattle.edit_bodies.specs.Trees.{left}
use Rattle.edits.specs.declared.kinds.Kind.TheVariants as kinds
use Rattle.edit_bodies.specs.declared.members.Member.TheVariants.{Number}
use Rattle.edits.specs.declared.content.What.{What}
use Rattle.edits.specs.declared.content.What.TheVariants.{DropMeasurement}

-- what is read after each member
abbrev after_number : ℕ → Reader What
after_number number = done (DropMeasurement number)

pub returns-in_err-number-clause-read : goal.returns-in_err-number-clause-read
returns-in_err-number-clause-read c =
    let same : c.from_residual.result ≡ Err c.in_err-number.field-0.0 = search rules in
    same_answer (row kinds.DropMeasurement) (left c.args.fields.now) (left c.take_measurement_number.new.fields) c.in_err-number.field-0.0 c.from_residual.result same
    (stopped (required Number measurement_number_of) after_number (left c.args.fields.now) (left c.take_measurement_number.new.fields) (left c.take_measurement_number.new.fields) c.in_err-number.field-0.0 c.in_err-number.ensures.read)

pub returns-clause-read : goal.returns-clause-read
returns-clause-read c =
    (read_on (required Number measurement_number_of) after_number (left c.args.fields.now) (left c.take_measurement_number.new.fields) (left c.take_measurement_number.new.fields) c.in_ok-number.number (Ok (DropMeasurement c.in_ok-number.number)) c.in_ok-number.ensures.read
    refl)
