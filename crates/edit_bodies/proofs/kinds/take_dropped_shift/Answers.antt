use Rattle.std.proofs.Common.{◌≡◌, ℤ, Ok, Err, refl, rules}
use Rattle.edit_bodies.proofs.ChainLemmas.{read_on, stopped, same_answer}
use Rattle.edit_bodies.proofs.kinds.take_dropped_shift.Goals as goal
use Rattle.edit_bodies.specs.Grammars.{instant_of}
use Rattle.edit_bodies.specs.Kinds.{row}
use Rattle.edit_bodies.specs.Members.{Reader, done, required}
use Rattle.edit_bodies.specs.Trees.{left}
use Rattle.edits.specs.declared.kinds.Kind.TheVariants as kinds
use Rattle.edit_bodies.specs.declared.members.Member.TheVariants.{At}
use Rattle.edits.specs.declared.content.What.{What}
use Rattle.edits.specs.declared.content.What.TheVariants.{DropShift}

-- what is read after each member
abbrev after_at : ℤ → Reader What
after_at at = done (DropShift at)

pub returns-in_err-at-clause-read : goal.returns-in_err-at-clause-read
returns-in_err-at-clause-read c =
    let same : c.from_residual.result ≡ Err c.in_err-at.field-0.0 = search rules in
    same_answer (row kinds.DropShift) (left c.args.fields.now) (left c.take_instant.new.fields) c.in_err-at.field-0.0 c.from_residual.result same
    (stopped (required At instant_of) after_at (left c.args.fields.now) (left c.take_instant.new.fields) (left c.take_instant.new.fields) c.in_err-at.field-0.0 c.in_err-at.ensures.read)

pub returns-clause-read : goal.returns-clause-read
returns-clause-read c =
    (read_on (required At instant_of) after_at (left c.args.fields.now) (left c.take_instant.new.fields) (left c.take_instant.new.fields) c.in_ok-at.at (Ok (DropShift c.in_ok-at.at)) c.in_ok-at.ensures.read
    refl)
