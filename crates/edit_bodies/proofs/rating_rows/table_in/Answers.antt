use Rattle.std.proofs.Common.{Option, option_and_then, option_map, refl, sym, ap, ◌∙◌, subst, IfSome}
use Rattle.edit_bodies.proofs.RatingLemmas.{table_rating, too_many}
use Rattle.edit_bodies.proofs.TextLemmas.{ok_or-each}
use Rattle.edit_bodies.proofs.rating_rows.table_in.Goals as goal
use Rattle.edit_bodies.specs.Grammars.{each_of, rating_row_of, table_if}
use Rattle.edit_bodies.specs.Trees.{items_stated}
use Rattle.rating_tables.specs.Table.{IsRating}
use Rattle.serde_json.specs.Data.{Items}

pub returns-then-items-gt-MOST_ROWS-clause-found : goal.returns-then-items-gt-MOST_ROWS-clause-found
returns-then-items-gt-MOST_ROWS-clause-found c = (
  ap (λ (o : Option Items). option_and_then table_if (option_and_then (each_of rating_row_of) o)) (sym c.in-Some.ensures)
      ∙ too_many c.in-Some.items.now c.if-items-gt-MOST_ROWS.true,
  refl,
)

pub returns-in-Ok-Some-clause-rating : goal.returns-in-Ok-Some-clause-rating
returns-in-Ok-Some-clause-rating c =
    let rating = table_rating (items_stated c.in-Some.items.now) _ c.in-Ok-Some.rows.items c.in-Ok-Some.ensures (ap (option_map (λ rows. rows.items)) c.in-Ok-Some.field-0-is) in
    rw c.ok_or.ensures.value (ok_or-each IsRating c.table_from.result _ (subst (λ o. IfSome o IsRating) (sym c.table_from.ensures) rating))
