-- The station is that of the first line, and the rows are those of the others.
use Rattle.std.proofs.Common.{◌≡◌, refl, sym, subst, inl, inr}
use Rattle.std.specs.Prelude.{◌⊎◌, Ok, Err}
use Rattle.std.proofs.lemmas.Result.{IfErr-weaker}
use Rattle.draw.specs.Rows.{fields, texts}
use Rattle.draw.specs.Tables.{IsFaultBehind, IsStation, IsTableBehind, no_row, rows_from}
use Rattle.draw.specs.declared.rows.Why.TheVariants.{NoMemory}
use Rattle.draw.specs.declared.tables.RowFault.{RowFault}
use Rattle.draw.specs.declared.tables.Table.{Table}
use Rattle.draw.proofs.RowLemmas.{both_ok}
use Rattle.draw.proofs.tables.read_behind.Goals as goal

pub returns-in-Ok-clause-read : goal.returns-in-Ok-clause-read
returns-in-Ok-clause-read c =
    both_ok c.with_rows.result (λ (t : Table). t.station ≡ c.in-Ok.station) (λ (t : Table). rows_from 1 no_row (texts c.args.others.now) ≡ Ok t.rows.items)
    (IsTableBehind c.args.first.now (texts c.args.others.now))
    (λ t same rows. record { first = subst (IsStation (fields c.args.first.now)) (sym same) c.in-Ok.ensures.read; others = rows })
    c.with_rows.ensures.station c.with_rows.ensures.rows

pub returns-in-Ok-clause-refused : goal.returns-in-Ok-clause-refused
returns-in-Ok-clause-refused c =
    IfErr-weaker c.with_rows.result (λ (f : RowFault). (f.why ≡ NoMemory) ⊎ rows_from 1 no_row (texts c.args.others.now) ≡ Err f)
    (λ (f : RowFault). (f.why ≡ NoMemory) ⊎ IsFaultBehind c.args.first.now (texts c.args.others.now) f)
    (λ f h. elim h [ inl e ↦ inl e | inr r ↦ inr (inr r) ])
    c.with_rows.ensures.refused

pub returns-in-Err-clause-refused : goal.returns-in-Err-clause-refused
returns-in-Err-clause-refused c = elim c.in-Err.ensures.refused [ inl e ↦ inl e | inr h ↦ inr (inl (h, refl)) ]
