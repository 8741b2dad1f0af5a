use Rattle.std.proofs.Common.{◌≡◌, ℕ, ℤ, Ok, Err, refl, rules}
use Rattle.edit_bodies.proofs.ChainLemmas.{read_on, stopped, same_answer}
use Rattle.edit_bodies.proofs.kinds.take_measurement.Goals as goal
use Rattle.edit_bodies.specs.Grammars.{measurement_number_of, instant_of, stage_of, discharge_of, grade_of}
use Rattle.edit_bodies.specs.Kinds.{row}
use Rattle.edit_bodies.specs.Members.{Reader, ◌>>=◌, done, required}
use Rattle.edit_bodies.specs.Trees.{left}
use Rattle.edits.specs.declared.kinds.Kind.TheVariants as kinds
use Rattle.edit_bodies.specs.declared.members.Member.TheVariants.{Number, At, Gage, Discharge, Grade}
use Rattle.edits.specs.declared.content.What.{What}
use Rattle.edits.specs.declared.content.What.TheVariants.{PutMeasurement}
use Rattle.edits.specs.declared.measurements.Grade as grades

-- what is read after each member
abbrev after_grade : ℕ → ℤ → ℤ → ℤ → grades.Grade → Reader What
after_grade number at gage discharge grade = done (PutMeasurement (record { number = number; at = at; gage = gage; discharge = discharge; grade = grade }))

abbrev after_discharge : ℕ → ℤ → ℤ → ℤ → Reader What
after_discharge number at gage discharge = required Grade grade_of >>= after_grade number at gage discharge

abbrev after_gage : ℕ → ℤ → ℤ → Reader What
after_gage number at gage = required Discharge discharge_of >>= after_discharge number at gage

abbrev after_at : ℕ → ℤ → Reader What
after_at number at = required Gage stage_of >>= after_gage number at

abbrev after_number : ℕ → Reader What
after_number number = required At instant_of >>= after_at number

pub returns-in_err-number-clause-read : goal.returns-in_err-number-clause-read
returns-in_err-number-clause-read c =
    let same : c.from_residual.result ≡ Err c.in_err-number.field-0.0 = search rules in
    same_answer (row kinds.PutMeasurement) (left c.args.fields.now) (left c.take_measurement_number.new.fields) c.in_err-number.field-0.0 c.from_residual.result same
    (stopped (required Number measurement_number_of) after_number (left c.args.fields.now) (left c.take_measurement_number.new.fields) (left c.take_measurement_number.new.fields) c.in_err-number.field-0.0 c.in_err-number.ensures.read)

pub returns-in_err-at-clause-read : goal.returns-in_err-at-clause-read
returns-in_err-at-clause-read c =
    let same : c.from_residual-in_err-at.result ≡ Err c.in_err-at.field-0.0 = search rules in
    same_answer (row kinds.PutMeasurement) (left c.args.fields.now) (left c.take_instant.new.fields) c.in_err-at.field-0.0 c.from_residual-in_err-at.result same
    (read_on (required Number measurement_number_of) after_number (left c.args.fields.now) (left c.take_measurement_number.new.fields) (left c.take_instant.new.fields) c.in_ok-number.number (Err c.in_err-at.field-0.0) c.in_ok-number.ensures.read
    (stopped (required At instant_of) (after_at c.in_ok-number.number) (left c.take_measurement_number.new.fields) (left c.take_instant.new.fields) (left c.take_instant.new.fields) c.in_err-at.field-0.0 c.in_err-at.ensures.read))

pub returns-in_err-gage-clause-read : goal.returns-in_err-gage-clause-read
returns-in_err-gage-clause-read c =
    let same : c.from_residual-in_err-gage.result ≡ Err c.in_err-gage.field-0.0 = search rules in
    same_answer (row kinds.PutMeasurement) (left c.args.fields.now) (left c.take_gage.new.fields) c.in_err-gage.field-0.0 c.from_residual-in_err-gage.result same
    (read_on (required Number measurement_number_of) after_number (left c.args.fields.now) (left c.take_measurement_number.new.fields) (left c.take_gage.new.fields) c.in_ok-number.number (Err c.in_err-gage.field-0.0) c.in_ok-number.ensures.read
    (read_on (required At instant_of) (after_at c.in_ok-number.number) (left c.take_measurement_number.new.fields) (left c.take_instant.new.fields) (left c.take_gage.new.fields) c.in_ok-at.at (Err c.in_err-gage.field-0.0) c.in_ok-at.ensures.read
    (stopped (required Gage stage_of) (after_gage c.in_ok-number.number c.in_ok-at.at) (left c.take_instant.new.fields) (left c.take_gage.new.fields) (left c.take_gage.new.fields) c.in_err-gage.field-0.0 c.in_err-gage.ensures.read)))

pub returns-in_err-discharge-clause-read : goal.returns-in_err-discharge-clause-read
returns-in_err-discharge-clause-read c =
    let same : c.from_residual-in_err-discharge.result ≡ Err c.in_err-discharge.field-0.0 = search rules in
    same_answer (row kinds.PutMeasurement) (left c.args.fields.now) (left c.take_discharge.new.fields) c.in_err-discharge.field-0.0 c.from_residual-in_err-discharge.result same
    (read_on (required Number measurement_number_of) after_number (left c.args.fields.now) (left c.take_measurement_number.new.fields) (left c.take_discharge.new.fields) c.in_ok-number.number (Err c.in_err-discharge.field-0.0) c.in_ok-number.ensures.read
    (read_on (required At instant_of) (after_at c.in_ok-number.number) (left c.take_measurement_number.new.fields) (left c.take_instant.new.fields) (left c.take_discharge.new.fields) c.in_ok-at.at (Err c.in_err-discharge.field-0.0) c.in_ok-at.ensures.read
    (read_on (required Gage stage_of) (after_gage c.in_ok-number.number c.in_ok-at.at) (left c.take_instant.new.fields) (left c.take_gage.new.fields) (left c.take_discharge.new.fields) c.in_ok-gage.gage (Err c.in_err-discharge.field-0.0) c.in_ok-gage.ensures.read
    (stopped (required Discharge discharge_of) (after_discharge c.in_ok-number.number c.in_ok-at.at c.in_ok-gage.gage) (left c.take_gage.new.fields) (left c.take_discharge.new.fields) (left c.take_discharge.new.fields) c.in_err-discharge.field-0.0 c.in_err-discharge.ensures.read))))

pub returns-in_err-grade-clause-read : goal.returns-in_err-grade-clause-read
returns-in_err-grade-clause-read c =
    let same : c.from_residual-in_err-grade.result ≡ Err c.in_err-grade.field-0.0 = search rules in
    same_answer (row kinds.PutMeasurement) (left c.args.fields.now) (left c.take_grade.new.fields) c.in_err-grade.field-0.0 c.from_residual-in_err-grade.result same
    (read_on (required Number measurement_number_of) after_number (left c.args.fields.now) (left c.take_measurement_number.new.fields) (left c.take_grade.new.fields) c.in_ok-number.number (Err c.in_err-grade.field-0.0) c.in_ok-number.ensures.read
    (read_on (required At instant_of) (after_at c.in_ok-number.number) (left c.take_measurement_number.new.fields) (left c.take_instant.new.fields) (left c.take_grade.new.fields) c.in_ok-at.at (Err c.in_err-grade.field-0.0) c.in_ok-at.ensures.read
    (read_on (required Gage stage_of) (after_gage c.in_ok-number.number c.in_ok-at.at) (left c.take_instant.new.fields) (left c.take_gage.new.fields) (left c.take_grade.new.fields) c.in_ok-gage.gage (Err c.in_err-grade.field-0.0) c.in_ok-gage.ensures.read
    (read_on (required Discharge discharge_of) (after_discharge c.in_ok-number.number c.in_ok-at.at c.in_ok-gage.gage) (left c.take_gage.new.fields) (left c.take_discharge.new.fields) (left c.take_grade.new.fields) c.in_ok-discharge.discharge (Err c.in_err-grade.field-0.0) c.in_ok-discharge.ensures.read
    (stopped (required Grade grade_of) (after_grade c.in_ok-number.number c.in_ok-at.at c.in_ok-gage.gage c.in_ok-discharge.discharge) (left c.take_discharge.new.fields) (left c.take_grade.new.fields) (left c.take_grade.new.fields) c.in_err-grade.field-0.0 c.in_err-grade.ensures)))))

pub returns-clause-read : goal.returns-clause-read
returns-clause-read c =
    (read_on (required Number measurement_number_of) after_number (left c.args.fields.now) (left c.take_measurement_number.new.fields) (left c.take_grade.new.fields) c.in_ok-number.number (Ok (PutMeasurement (record { number = c.in_ok-number.number; at = c.in_ok-at.at; gage = c.in_ok-gage.gage; discharge = c.in_ok-discharge.discharge; grade = c.in_ok-grade.grade }))) c.in_ok-number.ensures.read
    (read_on (required At instant_of) (after_at c.in_ok-number.number) (left c.take_measurement_number.new.fields) (left c.take_instant.new.fields) (left c.take_grade.new.fields) c.in_ok-at.at (Ok (PutMeasurement (record { number = c.in_ok-number.number; at = c.in_ok-at.at; gage = c.in_ok-gage.gage; discharge = c.in_ok-discharge.discharge; grade = c.in_ok-grade.grade }))) c.in_ok-at.ensures.read
    (read_on (required Gage stage_of) (after_gage c.in_ok-number.number c.in_ok-at.at) (left c.take_instant.new.fields) (left c.take_gage.new.fields) (left c.take_grade.new.fields) c.in_ok-gage.gage (Ok (PutMeasurement (record { number = c.in_ok-number.number; at = c.in_ok-at.at; gage = c.in_ok-gage.gage; discharge = c.in_ok-discharge.discharge; grade = c.in_ok-grade.grade }))) c.in_ok-gage.ensures.read
    (read_on (required Discharge discharge_of) (after_discharge c.in_ok-number.number c.in_ok-at.at c.in_ok-gage.gage) (left c.take_gage.new.fields) (left c.take_discharge.new.fields) (left c.take_grade.new.fields) c.in_ok-discharge.discharge (Ok (PutMeasurement (record { number = c.in_ok-number.number; at = c.in_ok-at.at; gage = c.in_ok-gage.gage; discharge = c.in_ok-discharge.discharge; grade = c.in_ok-grade.grade }))) c.in_ok-discharge.ensures.read
    (read_on (required Grade grade_of) (after_grade c.in_ok-number.number c.in_ok-at.at c.in_ok-gage.gage c.in_ok-discharge.discharge) (left c.take_discharge.new.fields) (left c.take_grade.new.fields) (left c.take_grade.new.fields) c.in_ok-grade.grade (Ok (PutMeasurement (record { number = c.in_ok-number.number; at = c.in_ok-at.at; gage = c.in_ok-gage.gage; discharge = c.in_ok-discharge.discharge; grade = c.in_ok-grade.grade }))) c.in_ok-grade.ensures
    refl)))))
