use Rattle.std.proofs.Common.{◌≡◌, ℕ, ℤ, Option, Ok, Err, refl, rules}
use Rattle.edit_bodies.proofs.ChainLemmas.{read_on, stopped, same_answer}
use Rattle.edit_bodies.proofs.kinds.take_period.Goals as goal
use Rattle.edit_bodies.specs.Grammars.{rating_number_of, instant_of, until_of}
use Rattle.edit_bodies.specs.Kinds.{row}
use Rattle.edit_bodies.specs.Members.{Reader, ◌>>=◌, done, required}
use Rattle.edit_bodies.specs.Trees.{left}
use Rattle.edits.specs.declared.kinds.Kind.TheVariants as kinds
use Rattle.edit_bodies.specs.declared.members.Member.TheVariants.{Rating, From, Until}
use Rattle.edits.specs.declared.content.What.{What}
use Rattle.edits.specs.declared.content.What.TheVariants.{PutPeriod}

-- what is read after each member
abbrev after_until : ℕ → ℤ → Option ℤ → Reader What
after_until rating from until = done (PutPeriod (record { from = from; until = until; rating = rating }))

abbrev after_from : ℕ → ℤ → Reader What
after_from rating from = required Until (until_of from) >>= after_until rating from

abbrev after_rating : ℕ → Reader What
after_rating rating = required From instant_of >>= after_from rating

pub returns-in_err-rating-clause-read : goal.returns-in_err-rating-clause-read
returns-in_err-rating-clause-read c =
    let same : c.from_residual.result ≡ Err c.in_err-rating.field-0.0 = search rules in
    same_answer (row kinds.PutPeriod) (left c.args.fields.now) (left c.take_rating_number.new.fields) c.in_err-rating.field-0.0 c.from_residual.result same
    (stopped (required Rating rating_number_of) after_rating (left c.args.fields.now) (left c.take_rating_number.new.fields) (left c.take_rating_number.new.fields) c.in_err-rating.field-0.0 c.in_err-rating.ensures.read)

pub returns-in_err-from-clause-read : goal.returns-in_err-from-clause-read
returns-in_err-from-clause-read c =
    let same : c.from_residual-in_err-from.result ≡ Err c.in_err-from.field-0.0 = search rules in
    same_answer (row kinds.PutPeriod) (left c.args.fields.now) (left c.take_instant.new.fields) c.in_err-from.field-0.0 c.from_residual-in_err-from.result same
    (read_on (required Rating rating_number_of) after_rating (left c.args.fields.now) (left c.take_rating_number.new.fields) (left c.take_instant.new.fields) c.in_ok-rating.rating (Err c.in_err-from.field-0.0) c.in_ok-rating.ensures.read
    (stopped (required From instant_of) (after_from c.in_ok-rating.rating) (left c.take_rating_number.new.fields) (left c.take_instant.new.fields) (left c.take_instant.new.fields) c.in_err-from.field-0.0 c.in_err-from.ensures.read))

pub returns-in_err-until-clause-read : goal.returns-in_err-until-clause-read
returns-in_err-until-clause-read c =
    let same : c.from_residual-in_err-until.result ≡ Err c.in_err-until.field-0.0 = search rules in
    same_answer (row kinds.PutPeriod) (left c.args.fields.now) (left c.take_until.new.fields) c.in_err-until.field-0.0 c.from_residual-in_err-until.result same
    (read_on (required Rating rating_number_of) after_rating (left c.args.fields.now) (left c.take_rating_number.new.fields) (left c.take_until.new.fields) c.in_ok-rating.rating (Err c.in_err-until.field-0.0) c.in_ok-rating.ensures.read
    (read_on (required From instant_of) (after_from c.in_ok-rating.rating) (left c.take_rating_number.new.fields) (left c.take_instant.new.fields) (left c.take_until.new.fields) c.in_ok-from.from (Err c.in_err-until.field-0.0) c.in_ok-from.ensures.read
    (stopped (required Until (until_of c.in_ok-from.from)) (after_until c.in_ok-rating.rating c.in_ok-from.from) (left c.take_instant.new.fields) (left c.take_until.new.fields) (left c.take_until.new.fields) c.in_err-until.field-0.0 c.in_err-until.ensures.read)))

pub returns-clause-read : goal.returns-clause-read
returns-clause-read c =
    (read_on (required Rating rating_number_of) after_rating (left c.args.fields.now) (left c.take_rating_number.new.fields) (left c.take_until.new.fields) c.in_ok-rating.rating (Ok (PutPeriod (record { from = c.in_ok-from.from; until = c.in_ok-until.until; rating = c.in_ok-rating.rating }))) c.in_ok-rating.ensures.read
    (read_on (required From instant_of) (after_from c.in_ok-rating.rating) (left c.take_rating_number.new.fields) (left c.take_instant.new.fields) (left c.take_until.new.fields) c.in_ok-from.from (Ok (PutPeriod (record { from = c.in_ok-from.from; until = c.in_ok-until.until; rating = c.in_ok-rating.rating }))) c.in_ok-from.ensures.read
    (read_on (required Until (until_of c.in_ok-from.from)) (after_until c.in_ok-rating.rating c.in_ok-from.from) (left c.take_instant.new.fields) (left c.take_until.new.fields) (left c.take_until.new.fields) c.in_ok-until.until (Ok (PutPeriod (record { from = c.in_ok-from.from; until = c.in_ok-until.until; rating = c.in_ok-rating.rating }))) c.in_ok-until.ensures.read
    refl)))
