use Rattle.std.proofs.Common.{◌≡◌, ℤ, List, Bool, Ok, Err, refl, rules}
use Rattle.edit_bodies.proofs.ChainLemmas.{read_on, stopped, same_answer}
use Rattle.edit_bodies.proofs.kinds.take_shift.Goals as goal
use Rattle.edit_bodies.specs.Grammars.{instant_of, points_of}
use Rattle.edit_bodies.specs.Kinds.{row}
use Rattle.edit_bodies.specs.Members.{Reader, ◌>>=◌, done, required}
use Rattle.edit_bodies.specs.Trees.{left}
use Rattle.edits.specs.declared.kinds.Kind.TheVariants as kinds
use Rattle.edit_bodies.specs.declared.members.Member.TheVariants.{At, Points, Prorate}
use Rattle.edits.specs.declared.content.What.{What}
use Rattle.edits.specs.declared.content.What.TheVariants.{PutShift}
use Rattle.serde_json.specs.Find.{as_bool}

-- what is read after each member
abbrev after_prorate : ℤ → List (ℤ × ℤ) → Bool → Reader What
after_prorate at curve prorate = done (PutShift at curve prorate)

abbrev after_curve : ℤ → List (ℤ × ℤ) → Reader What
after_curve at curve = required Prorate as_bool >>= after_prorate at curve

abbrev after_at : ℤ → Reader What
after_at at = required Points points_of >>= after_curve at

pub returns-in_err-at-clause-read : goal.returns-in_err-at-clause-read
returns-in_err-at-clause-read c =
    let same : c.from_residual.result ≡ Err c.in_err-at.field-0.0 = search rules in
    same_answer (row kinds.PutShift) (left c.args.fields.now) (left c.take_instant.new.fields) c.in_err-at.field-0.0 c.from_residual.result same
    (stopped (required At instant_of) after_at (left c.args.fields.now) (left c.take_instant.new.fields) (left c.take_instant.new.fields) c.in_err-at.field-0.0 c.in_err-at.ensures.read)

pub returns-in_err-curve-clause-read : goal.returns-in_err-curve-clause-read
returns-in_err-curve-clause-read c =
    let same : c.from_residual-in_err-curve.result ≡ Err c.in_err-curve.field-0.0 = search rules in
    same_answer (row kinds.PutShift) (left c.args.fields.now) (left c.take_points.new.fields) c.in_err-curve.field-0.0 c.from_residual-in_err-curve.result same
    (read_on (required At instant_of) after_at (left c.args.fields.now) (left c.take_instant.new.fields) (left c.take_points.new.fields) c.in_ok-at.at (Err c.in_err-curve.field-0.0) c.in_ok-at.ensures.read
    (stopped (required Points points_of) (after_curve c.in_ok-at.at) (left c.take_instant.new.fields) (left c.take_points.new.fields) (left c.take_points.new.fields) c.in_err-curve.field-0.0 c.in_err-curve.ensures.read))

pub returns-in_err-prorate-clause-read : goal.returns-in_err-prorate-clause-read
returns-in_err-prorate-clause-read c =
    let same : c.from_residual-in_err-prorate.result ≡ Err c.in_err-prorate.field-0.0 = search rules in
    same_answer (row kinds.PutShift) (left c.args.fields.now) (left c.take_prorate.new.fields) c.in_err-prorate.field-0.0 c.from_residual-in_err-prorate.result same
    (read_on (required At instant_of) after_at (left c.args.fields.now) (left c.take_instant.new.fields) (left c.take_prorate.new.fields) c.in_ok-at.at (Err c.in_err-prorate.field-0.0) c.in_ok-at.ensures.read
    (read_on (required Points points_of) (after_curve c.in_ok-at.at) (left c.take_instant.new.fields) (left c.take_points.new.fields) (left c.take_prorate.new.fields) c.in_ok-curve.curve (Err c.in_err-prorate.field-0.0) c.in_ok-curve.ensures.read
    (stopped (required Prorate as_bool) (after_prorate c.in_ok-at.at c.in_ok-curve.curve) (left c.take_points.new.fields) (left c.take_prorate.new.fields) (left c.take_prorate.new.fields) c.in_err-prorate.field-0.0 c.in_err-prorate.ensures)))

pub returns-clause-read : goal.returns-clause-read
returns-clause-read c =
    (read_on (required At instant_of) after_at (left c.args.fields.now) (left c.take_instant.new.fields) (left c.take_prorate.new.fields) c.in_ok-at.at (Ok (PutShift c.in_ok-at.at c.in_ok-curve.curve c.in_ok-prorate.prorate)) c.in_ok-at.ensures.read
    (read_on (required Points points_of) (after_curve c.in_ok-at.at) (left c.take_instant.new.fields) (left c.take_points.new.fields) (left c.take_prorate.new.fields) c.in_ok-curve.curve (Ok (PutShift c.in_ok-at.at c.in_ok-curve.curve c.in_ok-prorate.prorate)) c.in_ok-curve.ensures.read
    (read_on (required Prorate as_bool) (after_prorate c.in_ok-at.at c.in_ok-curve.curve) (left c.take_points.new.fields) (left c.take_prorate.new.fields) (left c.take_prorate.new.fields) c.in_ok-prorate.prorate (Ok (PutShift c.in_ok-at.at c.in_ok-curve.curve c.in_ok-prorate.prorate)) c.in_ok-prorate.ensures
    refl)))
