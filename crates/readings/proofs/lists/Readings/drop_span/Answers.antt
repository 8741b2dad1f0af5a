-- What is left stands before the span and behind it.
use Rattle.std.specs.Prelude.{◌++◌, take, drop}
use Rattle.std.proofs.Common.{ap, ◌∙◌, subst}
use Rattle.rising.specs.Lists.{Kept}
use Rattle.gapcol.specs.Lists.{Roomy}
use Rattle.fixed_units.specs.declared.readings.Reading.{Reading}
use Rattle.readings.specs.Readings.{IsRising}
use Rattle.readings.proofs.SpanLemmas.{dropped}
use Rattle.readings.proofs.lists.Readings.drop_span.Goals as goal

pub returns-clause-list : goal.returns-clause-list
returns-clause-list c =
    let first = c.places-first.result.0 in
    let end = c.places-first.result.1 in
    ap (λ (k : Roomy Reading). k.list) c.remove_run.ensures ∙ ap (λ (k : Kept Reading). take first k.list ++ drop end k.list) c.self.view_is
    ∙ dropped c.args.from c.args.to c.args.self.now.list first end (subst (λ (k : Kept Reading). IsRising k.list) c.self.view_is c.self.invariant)
    c.places-first.ensures.first c.places-first.ensures.end
