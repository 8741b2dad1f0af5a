use Rattle.std.proofs.Common.{◌≡◌, ℕ, ℤ, List, Bool, Ok, Err, refl, rules}
use Rattle.edit_bodies.proofs.ChainLemmas.{read_on, stopped, same_answer}
use Rattle.edit_bodies.proofs.kinds.take_correction.Goals as goal
use Rattle.edit_bodies.specs.Grammars.{set_of, instant_of, points_of}
use Rattle.edit_bodies.specs.Kinds.{row}
use Rattle.edit_bodies.specs.Members.{Reader, ◌>>=◌, done, required}
use Rattle.edit_bodies.specs.Trees.{left}
use Rattle.edits.specs.declared.kinds.Kind.TheVariants as kinds
use Rattle.edit_bodies.specs.declared.members.Member.TheVariants.{Set, At, Points, Prorate}
use Rattle.edits.specs.declared.content.What.{What}
use Rattle.edits.specs.declared.content.What.TheVariants.{PutCorrection}
use Rattle.serde_json.specs.Find.{as_bool}

-- what is read after each member
abbrev after_prorate : ℕ → ℤ → List (ℤ × ℤ) → Bool → Reader What
after_prorate set at curve prorate = done (PutCorrection set at curve prorate)

abbrev after_curve : ℕ → ℤ → List (ℤ × ℤ) → Reader What
after_curve set at curve = required Prorate as_bool >>= after_prorate set at curve

abbrev after_at : ℕ → ℤ → Reader What
after_at set at = required Points points_of >>= after_curve set at

abbrev after_set : ℕ → Reader What
after_set set = required At instant_of >>= after_at set

pub returns-in_err-set-clause-read : goal.returns-in_err-set-clause-read
returns-in_err-set-clause-read c =
    let same : c.from_residual.result ≡ Err c.in_err-set.field-0.0 = search rules in
    same_answer (row kinds.PutCorrection) (left c.args.fields.now) (left c.take_set.new.fields) c.in_err-set.field-0.0 c.from_residual.result same
    (stopped (required Set set_of) after_set (left c.args.fields.now) (left c.take_set.new.fields) (left c.take_set.new.fields) c.in_err-set.field-0.0 c.in_err-set.ensures.read)

pub returns-in_err-at-clause-read : goal.returns-in_err-at-clause-read
returns-in_err-at-clause-read c =
    let same : c.from_residual-in_err-at.result ≡ Err c.in_err-at.field-0.0 = search rules in
    same_answer (row kinds.PutCorrection) (left c.args.fields.now) (left c.take_instant.new.fields) c.in_err-at.field-0.0 c.from_residual-in_err-at.result same
    (read_on (required Set set_of) after_set (left c.args.fields.now) (left c.take_set.new.fields) (left c.take_instant.new.fields) c.in_ok-set.set (Err c.in_err-at.field-0.0) c.in_ok-set.ensures.read
    (stopped (required At instant_of) (after_at c.in_ok-set.set) (left c.take_set.new.fields) (left c.take_instant.new.fields) (left c.take_instant.new.fields) c.in_err-at.field-0.0 c.in_err-at.ensures.read))

pub returns-in_err-curve-clause-read : goal.returns-in_err-curve-clause-read
returns-in_err-curve-clause-read c =
    let same : c.from_residual-in_err-curve.result ≡ Err c.in_err-curve.field-0.0 = search rules in
    same_answer (row kinds.PutCorrection) (left c.args.fields.now) (left c.take_points.new.fields) c.in_err-curve.field-0.0 c.from_residual-in_err-curve.result same
    (read_on (required Set set_of) after_set (left c.args.fields.now) (left c.take_set.new.fields) (left c.take_points.new.fields) c.in_ok-set.set (Err c.in_err-curve.field-0.0) c.in_ok-set.ensures.read
    (read_on (required At instant_of) (after_at c.in_ok-set.set) (left c.take_set.new.fields) (left c.take_instant.new.fields) (left c.take_points.new.fields) c.in_ok-at.at (Err c.in_err-curve.field-0.0) c.in_ok-at.ensures.read
    (stopped (required Points points_of) (after_curve c.in_ok-set.set c.in_ok-at.at) (left c.take_instant.new.fields) (left c.take_points.new.fields) (left c.take_points.new.fields) c.in_err-curve.field-0.0 c.in_err-curve.ensures.read)))

pub returns-in_err-prorate-clause-read : goal.returns-in_err-prorate-clause-read
returns-in_err-prorate-clause-read c =
    let same : c.from_residual-in_err-prorate.result ≡ Err c.in_err-prorate.field-0.0 = search rules in
    same_answer (row kinds.PutCorrection) (left c.args.fields.now) (left c.take_prorate.new.fields) c.in_err-prorate.field-0.0 c.from_residual-in_err-prorate.result same
    (read_on (required Set set_of) after_set (left c.args.fields.now) (left c.take_set.new.fields) (left c.take_prorate.new.fields) c.in_ok-set.set (Err c.in_err-prorate.field-0.0) c.in_ok-set.ensures.read
    (read_on (required At instant_of) (after_at c.in_ok-set.set) (left c.take_set.new.fields) (left c.take_instant.new.fields) (left c.take_prorate.new.fields) c.in_ok-at.at (Err c.in_err-prorate.field-0.0) c.in_ok-at.ensures.read
    (read_on (required Points points_of) (after_curve c.in_ok-set.set c.in_ok-at.at) (left c.take_instant.new.fields) (left c.take_points.new.fields) (left c.take_prorate.new.fields) c.in_ok-curve.curve (Err c.in_err-prorate.field-0.0) c.in_ok-curve.ensures.read
    (stopped (required Prorate as_bool) (after_prorate c.in_ok-set.set c.in_ok-at.at c.in_ok-curve.curve) (left c.take_points.new.fields) (left c.take_prorate.new.fields) (left c.take_prorate.new.fields) c.in_err-prorate.field-0.0 c.in_err-prorate.ensures))))

pub returns-clause-read : goal.returns-clause-read
returns-clause-read c =
    (read_on (required Set set_of) after_set (left c.args.fields.now) (left c.take_set.new.fields) (left c.take_prorate.new.fields) c.in_ok-set.set (Ok (PutCorrection c.in_ok-set.set c.in_ok-at.at c.in_ok-curve.curve c.in_ok-prorate.prorate)) c.in_ok-set.ensures.read
    (read_on (required At instant_of) (after_at c.in_ok-set.set) (left c.take_set.new.fields) (left c.take_instant.new.fields) (left c.take_prorate.new.fields) c.in_ok-at.at (Ok (PutCorrection c.in_ok-set.set c.in_ok-at.at c.in_ok-curve.curve c.in_ok-prorate.prorate)) c.in_ok-at.ensures.read
    (read_on (required Points points_of) (after_curve c.in_ok-set.set c.in_ok-at.at) (left c.take_instant.new.fields) (left c.take_points.new.fields) (left c.take_prorate.new.fields) c.in_ok-curve.curve (Ok (PutCorrection c.in_ok-set.set c.in_ok-at.at c.in_ok-curve.curve c.in_ok-prorate.prorate)) c.in_ok-curve.ensures.read
    (read_on (required Prorate as_bool) (after_prorate c.in_ok-set.set c.in_ok-at.at c.in_ok-curve.curve) (left c.take_points.new.fields) (left c.take_prorate.new.fields) (left c.take_prorate.new.fields) c.in_ok-prorate.prorate (Ok (PutCorrection c.in_ok-set.set c.in_ok-at.at c.in_ok-curve.curve c.in_ok-prorate.prorate)) c.in_ok-prorate.ensures
    refl))))
