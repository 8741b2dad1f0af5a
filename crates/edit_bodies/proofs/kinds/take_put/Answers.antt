use Rattle.std.proofs.Common.{◌≡◌, List, Ok, Err, refl, rules}
use Rattle.edit_bodies.proofs.ChainLemmas.{read_on, stopped, same_answer}
use Rattle.edit_bodies.proofs.kinds.take_put.Goals as goal
use Rattle.edit_bodies.specs.Grammars.{readings_of}
use Rattle.edit_bodies.specs.Kinds.{row}
use Rattle.edit_bodies.specs.Members.{Reader, done, required}
use Rattle.edits.specs.declared.kinds.Kind.TheVariants as kinds
use Rattle.edit_bodies.specs.declared.members.Member.TheVariants.{Readings}
use Rattle.edits.specs.declared.content.What.{What}
use Rattle.edits.specs.declared.content.What.TheVariants.{PutReadings}
use Rattle.edit_bodies.specs.Trees.{left}
use Rattle.fixed_units.specs.declared.readings.Reading.{Reading}

-- what is read after each member
abbrev after_readings : List Reading → Reader What
after_readings readings = done (PutReadings readings)

pub returns-in_err-readings-clause-read : goal.returns-in_err-readings-clause-read
returns-in_err-readings-clause-read c =
    let same : c.from_residual.result ≡ Err c.in_err-readings.field-0.0 = search rules in
    same_answer (row kinds.PutReadings) (left c.args.fields.now) (left c.take_readings.new.fields) c.in_err-readings.field-0.0 c.from_residual.result same
    (stopped (required Readings readings_of) after_readings (left c.args.fields.now) (left c.take_readings.new.fields) (left c.take_readings.new.fields) c.in_err-readings.field-0.0 c.in_err-readings.ensures.read)

pub returns-clause-read : goal.returns-clause-read
returns-clause-read c =
    (read_on (required Readings readings_of) after_readings (left c.args.fields.now) (left c.take_readings.new.fields) (left c.take_readings.new.fields) c.in_ok-readings.readings (Ok (PutReadings c.in_ok-readings.readings)) c.in_ok-readings.ensures.read
    refl)
