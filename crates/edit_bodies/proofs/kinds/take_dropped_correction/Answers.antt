use Rattle.std.proofs.Common.{◌≡◌, ℕ, ℤ, Ok, Err, refl, rules}
use Rattle.edit_bodies.proofs.ChainLemmas.{read_on, stopped, same_answer}
use Rattle.edit_bodies.proofs.kinds.take_dropped_correction.Goals as goal
use Rattle.edit_bodies.specs.Grammars.{set_of, instant_of}
use Rattle.edit_bodies.specs.Kinds.{row}
use Rattle.edit_bodies.specs.Members.{Reader, ◌>>=◌, done, required}
use Rattle.edit_bodies.specs.Trees.{left}
use Rattle.edits.specs.declared.kinds.Kind.TheVariants as kinds
use Rattle.edit_bodies.specs.declared.members.Member.TheVariants.{Set, At}
use Rattle.edits.specs.declared.content.What.{What}
use Rattle.edits.specs.declared.content.What.TheVariants.{DropCorrection}

-- what is read after each member
abbrev after_at : ℕ → ℤ → Reader What
after_at set at = done (DropCorrection set at)

abbrev after_set : ℕ → Reader What
after_set set = required At instant_of >>= after_at set

pub returns-in_err-set-clause-read : goal.returns-in_err-set-clause-read
returns-in_err-set-clause-read c =
    let same : c.from_residual.result ≡ Err c.in_err-set.field-0.0 = search rules in
    same_answer (row kinds.DropCorrection) (left c.args.fields.now) (left c.take_set.new.fields) c.in_err-set.field-0.0 c.from_residual.result same
    (stopped (required Set set_of) after_set (left c.args.fields.now) (left c.take_set.new.fields) (left c.take_set.new.fields) c.in_err-set.field-0.0 c.in_err-set.ensures.read)

pub returns-in_err-at-clause-read : goal.returns-in_err-at-clause-read
returns-in_err-at-clause-read c =
    let same : c.from_residual-in_err-at.result ≡ Err c.in_err-at.field-0.0 = search rules in
    same_answer (row kinds.DropCorrection) (left c.args.fields.now) (left c.take_instant.new.fields) c.in_err-at.field-0.0 c.from_residual-in_err-at.result same
    (read_on (required Set set_of) after_set (left c.args.fields.now) (left c.take_set.new.fields) (left c.take_instant.new.fields) c.in_ok-set.set (Err c.in_err-at.field-0.0) c.in_ok-set.ensures.read
    (stopped (required At instant_of) (after_at c.in_ok-set.set) (left c.take_set.new.fields) (left c.take_instant.new.fields) (left c.take_instant.new.fields) c.in_err-at.field-0.0 c.in_err-at.ensures.read))

pub returns-clause-read : goal.returns-clause-read
returns-clause-read c =
    (read_on (required Set set_of) after_set (left c.args.fields.now) (left c.take_set.new.fields) (left c.take_instant.new.fields) c.in_ok-set.set (Ok (DropCorrection c.in_ok-set.set c.in_ok-at.at)) c.in_ok-set.ensures.read
    (read_on (required At instant_of) (after_at c.in_ok-set.set) (left c.take_set.new.fields) (left c.take_instant.new.fields) (left c.take_instant.new.fields) c.in_ok-at.at (Ok (DropCorrection c.in_ok-set.set c.in_ok-at.at)) c.in_ok-at.ensures.read
    refl))
