use Rattle.std.proofs.Common.{◌≡◌, ℕ, ℤ, List, Ok, Err, refl, rules}
use Rattle.edit_bodies.proofs.ChainLemmas.{read_on, stopped, same_answer}
use Rattle.edit_bodies.proofs.kinds.take_rating.Goals as goal
use Rattle.edit_bodies.specs.Grammars.{rating_number_of, table_of}
use Rattle.edit_bodies.specs.Kinds.{row}
use Rattle.edit_bodies.specs.Members.{Reader, ◌>>=◌, done, required}
use Rattle.edit_bodies.specs.Trees.{left}
use Rattle.edits.specs.declared.kinds.Kind.TheVariants as kinds
use Rattle.edit_bodies.specs.declared.members.Member.TheVariants.{Rating, Rows}
use Rattle.edits.specs.declared.content.What.{What}
use Rattle.edits.specs.declared.content.What.TheVariants.{AddRating}

-- what is read after each member
abbrev after_table : ℕ → List (ℤ × ℤ) → Reader What
after_table rating table = done (AddRating rating table)

abbrev after_rating : ℕ → Reader What
after_rating rating = required Rows table_of >>= after_table rating

pub returns-in_err-rating-clause-read : goal.returns-in_err-rating-clause-read
returns-in_err-rating-clause-read c =
    let same : c.from_residual.result ≡ Err c.in_err-rating.field-0.0 = search rules in
    same_answer (row kinds.AddRating) (left c.args.fields.now) (left c.take_rating_number.new.fields) c.in_err-rating.field-0.0 c.from_residual.result same
    (stopped (required Rating rating_number_of) after_rating (left c.args.fields.now) (left c.take_rating_number.new.fields) (left c.take_rating_number.new.fields) c.in_err-rating.field-0.0 c.in_err-rating.ensures.read)

pub returns-in_err-table-clause-read : goal.returns-in_err-table-clause-read
returns-in_err-table-clause-read c =
    let same : c.from_residual-in_err-table.result ≡ Err c.in_err-table.field-0.0 = search rules in
    same_answer (row kinds.AddRating) (left c.args.fields.now) (left c.take_table.new.fields) c.in_err-table.field-0.0 c.from_residual-in_err-table.result same
    (read_on (required Rating rating_number_of) after_rating (left c.args.fields.now) (left c.take_rating_number.new.fields) (left c.take_table.new.fields) c.in_ok-rating.rating (Err c.in_err-table.field-0.0) c.in_ok-rating.ensures.read
    (stopped (required Rows table_of) (after_table c.in_ok-rating.rating) (left c.take_rating_number.new.fields) (left c.take_table.new.fields) (left c.take_table.new.fields) c.in_err-table.field-0.0 c.in_err-table.ensures.read))

pub returns-clause-read : goal.returns-clause-read
returns-clause-read c =
    (read_on (required Rating rating_number_of) after_rating (left c.args.fields.now) (left c.take_rating_number.new.fields) (left c.take_table.new.fields) c.in_ok-rating.rating (Ok (AddRating c.in_ok-rating.rating c.in_ok-table.table)) c.in_ok-rating.ensures.read
    (read_on (required Rows table_of) (after_table c.in_ok-rating.rating) (left c.take_rating_number.new.fields) (left c.take_table.new.fields) (left c.take_table.new.fields) c.in_ok-table.table (Ok (AddRating c.in_ok-rating.rating c.in_ok-table.table)) c.in_ok-table.ensures.read
    refl))
