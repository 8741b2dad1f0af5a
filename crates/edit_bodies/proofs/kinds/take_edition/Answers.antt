use Rattle.std.proofs.Common.{◌≡◌, ℕ, ℤ, Option, Ok, Err, refl, rules}
use Rattle.edit_bodies.proofs.ChainLemmas.{read_on, stopped, same_answer}
use Rattle.edit_bodies.proofs.kinds.take_edition.Goals as goal
use Rattle.edit_bodies.specs.Grammars.{day_of, least_of}
use Rattle.edit_bodies.specs.Kinds.{row}
use Rattle.edit_bodies.specs.Members.{Reader, ◌>>=◌, done, required}
use Rattle.edit_bodies.specs.Trees.{left}
use Rattle.edits.specs.declared.kinds.Kind.TheVariants as kinds
use Rattle.edit_bodies.specs.declared.members.Member.TheVariants.{Day, Least}
use Rattle.edits.specs.declared.content.What.{What}
use Rattle.edits.specs.declared.content.What.TheVariants.{SetEdition}

-- what is read after each member
abbrev after_least : ℤ → Option ℕ → Reader What
after_least day least = done (SetEdition day least)

abbrev after_day : ℤ → Reader What
after_day day = required Least least_of >>= after_least day

pub returns-in_err-day-clause-read : goal.returns-in_err-day-clause-read
returns-in_err-day-clause-read c =
    let same : c.from_residual.result ≡ Err c.in_err-day.field-0.0 = search rules in
    same_answer (row kinds.SetEdition) (left c.args.fields.now) (left c.take_day.new.fields) c.in_err-day.field-0.0 c.from_residual.result same
    (stopped (required Day day_of) after_day (left c.args.fields.now) (left c.take_day.new.fields) (left c.take_day.new.fields) c.in_err-day.field-0.0 c.in_err-day.ensures)

pub returns-in_err-least-clause-read : goal.returns-in_err-least-clause-read
returns-in_err-least-clause-read c =
    let same : c.from_residual-in_err-least.result ≡ Err c.in_err-least.field-0.0 = search rules in
    same_answer (row kinds.SetEdition) (left c.args.fields.now) (left c.take_least.new.fields) c.in_err-least.field-0.0 c.from_residual-in_err-least.result same
    (read_on (required Day day_of) after_day (left c.args.fields.now) (left c.take_day.new.fields) (left c.take_least.new.fields) c.in_ok-day.day (Err c.in_err-least.field-0.0) c.in_ok-day.ensures
    (stopped (required Least least_of) (after_least c.in_ok-day.day) (left c.take_day.new.fields) (left c.take_least.new.fields) (left c.take_least.new.fields) c.in_err-least.field-0.0 c.in_err-least.ensures.read))

pub returns-clause-read : goal.returns-clause-read
returns-clause-read c =
    (read_on (required Day day_of) after_day (left c.args.fields.now) (left c.take_day.new.fields) (left c.take_least.new.fields) c.in_ok-day.day (Ok (SetEdition c.in_ok-day.day c.in_ok-least.least)) c.in_ok-day.ensures
    (read_on (required Least least_of) (after_least c.in_ok-day.day) (left c.take_day.new.fields) (left c.take_least.new.fields) (left c.take_least.new.fields) c.in_ok-least.least (Ok (SetEdition c.in_ok-day.day c.in_ok-least.least)) c.in_ok-least.ensures.read
    refl))
