use Rattle.std.proofs.Common.{◌≡◌, refl, ap, sym, subst, ◌∙◌, List, Result, Ok, Err, IfErr, Some, None, rules}
use Rattle.edits.specs.Lawful.{IsLawful}
use Rattle.rating_tables.specs.Table.{Row, table_fault}
use Rattle.rating_tables.specs.declared.table.TableFault.{TableFault}
use Rattle.std.specs.Result.{IsOk}
use Rattle.trial_orders.specs.Questions.{rating_rows}
use Rattle.trial_orders.proofs.LawfulLemmas.{lawful_rating}
use Rattle.trial_orders.proofs.stations.rating.Goals as goal

sound : table_fault rating_rows ≡ None
unfolding rating_rows
sound = refl

is_table : (rows : List Row) (r : Result (List Row) TableFault) → rows ≡ rating_rows → IfErr r (λ fault. table_fault rows ≡ Some fault) → IsOk r
is_table rows (Ok table) e h = refl
is_table rows (Err fault) e h = let same : table_fault rows ≡ None = ap table_fault e ∙ sound in absurd (cc)

pub unwrap-table-requires : goal.unwrap-table-requires
unwrap-table-requires c = is_table c.in_ok-rating_rows.field-0.items c.from_vec.result (search rules) c.from_vec.ensures.err

pub returns-clause-what : goal.returns-clause-what
returns-clause-what c = search rules

pub returns-clause-lawful : goal.returns-clause-lawful
returns-clause-lawful c = subst IsLawful (sym (returns-clause-what c)) (lawful_rating sound)
