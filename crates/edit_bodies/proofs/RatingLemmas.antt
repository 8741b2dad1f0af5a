-- The rows of a rating's table, read one after another.
use Rattle.std.proofs.Common.{◌≡◌, ◌<◌, List, length, ℤ, All, Bool, true, false, Option, Some, None, is_none, option_and_then, IfSome, if◌then◌else◌, nat_lt, ◌||◌, refl, sym, ◌∙◌, subst}
use Rattle.std.proofs.lemmas.Bool.{lt-ltb}
use Rattle.edit_bodies.proofs.EachLemmas.{none_kept}
use Rattle.edit_bodies.proofs.PairLemmas.{each_pair, within}
use Rattle.edit_bodies.specs.Grammars.{each_of, rating_row_of, table_if}
use Rattle.edit_bodies.specs.Trees.{Tree, items_stated}
use Rattle.fixed_units.specs.Quantities.{is_discharge, is_stage}
use Rattle.rating_tables.proofs.TableLemmas.{none_table}
use Rattle.rating_tables.specs.Table.{IsRating, IsRatingRow, order_fault, table_fault}
use Rattle.rating_tables.specs.declared.table.TableFault.{TableFault}
use Rattle.rating_tables.specs.declared.table.TableFault.TheVariants.{Count}
use Rattle.rating_tables.specs.declared.table.TheConstants.{LEAST_ROWS, MOST_ROWS}
use Rattle.serde_json.specs.Data.{Items}

-- each row that is read is one of a rating
rows_in_range : (rows : Items) (found : List (ℤ × ℤ)) → each_of rating_row_of rows ≡ Some found → All IsRatingRow found
rows_in_range rows found e =
    each_pair is_stage is_discharge IsRatingRow (λ p stage discharge. record { stage = within _ _ p.0 stage; discharge = within _ _ p.1 discharge }) rows found e

-- too many rows are no table
off_count : (rows : List (ℤ × ℤ)) → MOST_ROWS < length rows → is_none (table_fault rows) ≡ false
off_count rows many = by (nat_lt (length rows) LEAST_ROWS) (nat_lt MOST_ROWS (length rows)) (lt-ltb _ _ many)
  where
    by : (few wide : Bool) → wide ≡ true → is_none (if few || wide then Some Count else order_fault 0 rows) ≡ false
    by true wide e = refl
    by false true e = refl
    by false false e = absurd cc

pub too_many : (vs : List Tree) → MOST_ROWS < length vs → option_and_then table_if (each_of rating_row_of (items_stated vs)) ≡ None
too_many vs many =
    none_kept rating_row_of (λ rows. is_none (table_fault rows)) vs (λ rows same. off_count rows (subst (λ n. MOST_ROWS < n) (sym same) many))

-- a table of rows in range is a rating
without_fault : (rows : List (ℤ × ℤ)) (fault : Option TableFault) → table_fault rows ≡ fault → All IsRatingRow rows → IfSome (if is_none fault then Some rows else None) IsRating
without_fault rows None is each = record { table = none_table rows is; ranges = each }
without_fault rows (Some fault) is each = tt

pub table_rating : (items : Items) (found : Option (List (ℤ × ℤ))) (rows : List (ℤ × ℤ)) → found ≡ each_of rating_row_of items → found ≡ Some rows → IfSome (table_if rows) IsRating
table_rating items found rows read is = without_fault rows (table_fault rows) refl (rows_in_range items rows (sym read ∙ is))
