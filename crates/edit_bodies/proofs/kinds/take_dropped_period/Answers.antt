use Rattle.std.proofs.Common.{◌≡◌, ℤ, Ok, Err, refl, rules}
use Rattle.edit_bodies.proofs.ChainLemmas.{read_on, stopped, same_answer}
use Rattle.edit_bodies.proofs.kinds.take_dropped_period.Goals as goal
use Rattle.edit_bodies.specs.Grammars.{instant_of}
use Rattle.edit_bodies.specs.Kinds.{row}
use Rattle.edit_bodies.specs.Members.{Reader, done, required}
use Rattle.edit_bodies.specs.Trees.{left}
use Rattle.edits.specs.declared.kinds.Kind.TheVariants as kinds
use Rattle.edit_bodies.specs.declared.members.Member.TheVariants.{From}
use Rattle.edits.specs.declared.content.What.{What}
use Rattle.edits.specs.declared.content.What.TheVariants.{DropPeriod}

-- what is read after each member
abbrev after_from : ℤ → Reader What
after_from from = done (DropPeriod from)

pub returns-in_err-from-clause-read : goal.returns-in_err-from-clause-read
returns-in_err-from-clause-read c =
    let same : c.from_residual.result ≡ Err c.in_err-from.field-0.0 = search rules in
    same_answer (row kinds.DropPeriod) (left c.args.fields.now) (left c.take_instant.new.fields) c.in_err-from.field-0.0 c.from_residual.result same
    (stopped (required From instant_of) after_from (left c.args.fields.now) (left c.take_instant.new.fields) (left c.take_instant.new.fields) c.in_err-from.field-0.0 c.in_err-from.ensures.read)

pub returns-clause-read : goal.returns-clause-read
returns-clause-read c =
    (read_on (required From instant_of) after_from (left c.args.fields.now) (left c.take_instant.new.fields) (left c.take_instant.new.fields) c.in_ok-from.from (Ok (DropPeriod c.in_ok-from.from)) c.in_ok-from.ensures.read
    refl)
