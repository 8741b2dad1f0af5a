-- The first line, and those behind it.
use Rattle.std.proofs.Common.{◌≡◌, ℕ, List, sym, subst, inr}
use Rattle.std.specs.Prelude.{◌⊎◌, IfOk, IfErr}
use Rattle.draw.specs.Tables.{IsFaultOf, IsTableOf}
use Rattle.draw.specs.declared.rows.Why.TheVariants.{NoMemory}
use Rattle.draw.specs.declared.tables.RowFault.{RowFault}
use Rattle.draw.proofs.FieldLemmas.{no_line, no_text, texts_first}
use Rattle.draw.proofs.tables.read_all.Goals as goal

pub returns-in_default-clause-refused : goal.returns-in_default-clause-refused
returns-in_default-clause-refused c = inr (no_line c.args.lines.now c.in_default.len_below)

pub returns-clause-read : goal.returns-clause-read
returns-clause-read c =
    subst (λ (lines : List (List ℕ)). IfOk c.read_behind.result (IsTableOf lines)) (sym (texts_first c.args.lines.now no_text c.in-len1-up.len_at_least))
    c.read_behind.ensures.read

pub returns-clause-refused : goal.returns-clause-refused
returns-clause-refused c =
    subst (λ (lines : List (List ℕ)). IfErr c.read_behind.result (λ (fault : RowFault). (fault.why ≡ NoMemory) ⊎ IsFaultOf lines fault)) (sym (texts_first c.args.lines.now no_text c.in-len1-up.len_at_least))
    c.read_behind.ensures.refused
