-- The row of the line is put behind the others.
use Rattle.std.proofs.Common.{◌≡◌, ◌++◌, ◌∷◌, [], inl}
use Rattle.std.specs.Prelude.{◌⊎◌, Err}
use Rattle.std.proofs.lemmas.Result.{IfErr-weaker}
use Rattle.draw.specs.Tables.{IsAdded, row_behind, row_on}
use Rattle.draw.specs.declared.rows.Why.{Why}
use Rattle.draw.specs.declared.rows.Why.TheVariants.{NoMemory}
use Rattle.draw.specs.declared.tables.Before.{Before}
use Rattle.draw.proofs.RowLemmas.{both_ok}
use Rattle.draw.proofs.tables.next_row.Goals as goal

pub returns-in-Ok-clause-added : goal.returns-in-Ok-clause-added
returns-in-Ok-clause-added c =
    let row = c.in-Ok.row in
    let before = c.args.before.now in
    let old = c.args.rows.now.items in
    let new = c.put_row.new.rows.items in
    both_ok c.put_row.result (λ (next : Before). new ≡ old ++ row ∷ []) (λ (next : Before). next ≡ row_behind before row)
    (λ (next : Before). IsAdded before c.args.line.now next old new)
    (λ next added behind. record { row = row; states = c.in-Ok.ensures.read; added = added; behind = behind })
    c.put_row.ensures.rows c.put_row.ensures.next

pub returns-in-Ok-clause-refused : goal.returns-in-Ok-clause-refused
returns-in-Ok-clause-refused c =
    IfErr-weaker c.put_row.result (λ (why : Why). why ≡ NoMemory) (λ (why : Why). (why ≡ NoMemory) ⊎ (row_on c.args.before.now c.args.line.now ≡ Err why))
    (λ why none. inl none)
    c.put_row.ensures.refused
