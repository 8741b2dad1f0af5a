use Rattle.std.proofs.Common.{◌≡◌, ℤ, Ok, Err, refl, rules}
use Rattle.edit_bodies.proofs.ChainLemmas.{read_on, stopped, same_answer}
use Rattle.edit_bodies.proofs.kinds.take_flagged_span.Goals as goal
use Rattle.edit_bodies.specs.Grammars.{instant_of, to_of, flag_of}
use Rattle.edit_bodies.specs.Kinds.{row}
use Rattle.edit_bodies.specs.Members.{Reader, ◌>>=◌, done, required}
use Rattle.edit_bodies.specs.Trees.{left}
use Rattle.edits.specs.declared.kinds.Kind.TheVariants as kinds
use Rattle.edit_bodies.specs.declared.members.Member.TheVariants.{From, To, Flag}
use Rattle.edits.specs.declared.content.What.{What}
use Rattle.edits.specs.declared.content.What.TheVariants.{FlagReadings}
use Rattle.fixed_units.specs.declared.readings.Flag as flags

-- what is read after each member
abbrev after_flag : ℤ → ℤ → flags.Flag → Reader What
after_flag from to flag = done (FlagReadings from to flag)

abbrev after_to : ℤ → ℤ → Reader What
after_to from to = required Flag flag_of >>= after_flag from to

abbrev after_from : ℤ → Reader What
after_from from = required To (to_of from) >>= after_to from

pub returns-in_err-from-clause-read : goal.returns-in_err-from-clause-read
returns-in_err-from-clause-read c =
    let same : c.from_residual.result ≡ Err c.in_err-from.field-0.0 = search rules in
    same_answer (row kinds.FlagReadings) (left c.args.fields.now) (left c.take_instant.new.fields) c.in_err-from.field-0.0 c.from_residual.result same
    (stopped (required From instant_of) after_from (left c.args.fields.now) (left c.take_instant.new.fields) (left c.take_instant.new.fields) c.in_err-from.field-0.0 c.in_err-from.ensures.read)

pub returns-in_err-to-clause-read : goal.returns-in_err-to-clause-read
returns-in_err-to-clause-read c =
    let same : c.from_residual-in_err-to.result ≡ Err c.in_err-to.field-0.0 = search rules in
    same_answer (row kinds.FlagReadings) (left c.args.fields.now) (left c.take_to.new.fields) c.in_err-to.field-0.0 c.from_residual-in_err-to.result same
    (read_on (required From instant_of) after_from (left c.args.fields.now) (left c.take_instant.new.fields) (left c.take_to.new.fields) c.in_ok-from.from (Err c.in_err-to.field-0.0) c.in_ok-from.ensures.read
    (stopped (required To (to_of c.in_ok-from.from)) (after_to c.in_ok-from.from) (left c.take_instant.new.fields) (left c.take_to.new.fields) (left c.take_to.new.fields) c.in_err-to.field-0.0 c.in_err-to.ensures.read))

pub returns-in_err-flag-clause-read : goal.returns-in_err-flag-clause-read
returns-in_err-flag-clause-read c =
    let same : c.from_residual-in_err-flag.result ≡ Err c.in_err-flag.field-0.0 = search rules in
    same_answer (row kinds.FlagReadings) (left c.args.fields.now) (left c.take_flag.new.fields) c.in_err-flag.field-0.0 c.from_residual-in_err-flag.result same
    (read_on (required From instant_of) after_from (left c.args.fields.now) (left c.take_instant.new.fields) (left c.take_flag.new.fields) c.in_ok-from.from (Err c.in_err-flag.field-0.0) c.in_ok-from.ensures.read
    (read_on (required To (to_of c.in_ok-from.from)) (after_to c.in_ok-from.from) (left c.take_instant.new.fields) (left c.take_to.new.fields) (left c.take_flag.new.fields) c.in_ok-to.to (Err c.in_err-flag.field-0.0) c.in_ok-to.ensures.read
    (stopped (required Flag flag_of) (after_flag c.in_ok-from.from c.in_ok-to.to) (left c.take_to.new.fields) (left c.take_flag.new.fields) (left c.take_flag.new.fields) c.in_err-flag.field-0.0 c.in_err-flag.ensures)))

pub returns-clause-read : goal.returns-clause-read
returns-clause-read c =
    (read_on (required From instant_of) after_from (left c.args.fields.now) (left c.take_instant.new.fields) (left c.take_flag.new.fields) c.in_ok-from.from (Ok (FlagReadings c.in_ok-from.from c.in_ok-to.to c.in_ok-flag.flag)) c.in_ok-from.ensures.read
    (read_on (required To (to_of c.in_ok-from.from)) (after_to c.in_ok-from.from) (left c.take_instant.new.fields) (left c.take_to.new.fields) (left c.take_flag.new.fields) c.in_ok-to.to (Ok (FlagReadings c.in_ok-from.from c.in_ok-to.to c.in_ok-flag.flag)) c.in_ok-to.ensures.read
    (read_on (required Flag flag_of) (after_flag c.in_ok-from.from c.in_ok-to.to) (left c.take_to.new.fields) (left c.take_flag.new.fields) (left c.take_flag.new.fields) c.in_ok-flag.flag (Ok (FlagReadings c.in_ok-from.from c.in_ok-to.to c.in_ok-flag.flag)) c.in_ok-flag.ensures
    refl)))
