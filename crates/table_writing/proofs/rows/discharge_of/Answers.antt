use Rattle.std.proofs.Common.{Option, subst, sym, ◌∙◌}
use Rattle.fixed_units.specs.declared.published.Published.{Published}
use Rattle.table_writing.specs.Counted.{IsCountedIn}
use Rattle.table_writing.specs.Answers.{state_by}
use Rattle.table_writing.proofs.CountedLemmas.{discharge_counted}
use Rattle.table_writing.proofs.rows.discharge_of.Goals as goal

pub returns-in-Some-clause-counted : goal.returns-in-Some-clause-counted
returns-in-Some-clause-counted c = λ ok.
    subst (λ (found : Option Published). IsCountedIn (state_by found)) (sym c.discharge_text.ensures ∙ c.in-Some.is)
    (discharge_counted c.args.figures.now c.counts-counts.ensures.figures ok)
