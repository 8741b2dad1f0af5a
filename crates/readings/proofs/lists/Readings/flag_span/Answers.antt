-- The readings of the span are flagged where they stand.
use Rattle.std.specs.Prelude.{◌≡◌, ◌++◌, ◌-◌, true, take, drop, map}
use Rattle.std.proofs.Common.{ap, sym, ◌∙◌, subst}
use Rattle.rising.specs.Lists.{Kept}
use Rattle.gapcol.specs.Lists.{Roomy}
use Rattle.fixed_units.specs.declared.readings.Reading.{Reading}
use Rattle.readings.specs.Readings.{IsRising, flagged_where, with_flag}
use Rattle.readings.proofs.SpanLemmas.{flagged}
use Rattle.readings.proofs.RunLemmas.{with_flag_rises}
use Rattle.readings.proofs.lists.Readings.flag_span.Goals as goal

pub returns-clause-list : goal.returns-clause-list
returns-clause-list c =
    let first = c.places-first.result.0 in
    let end = c.places-first.result.1 in
    ap (λ (k : Roomy Reading). k.list) c.flag_run.ensures
    ∙ ap (λ (k : Kept Reading). take first k.list ++ (map (flagged_where true c.args.flag) (take (end - first) (drop first k.list)) ++ drop end k.list)) c.self.view_is
    ∙ flagged c.args.from c.args.to c.args.flag c.args.self.now.list first end (subst (λ (k : Kept Reading). IsRising k.list) c.self.view_is c.self.invariant)
    c.places-first.ensures.first c.places-first.ensures.end

pub invariant_of-self : goal.invariant_of-self
invariant_of-self c =
    let first = c.places-first.result.0 in
    let end = c.places-first.result.1 in
    let rising : IsRising c.args.self.now.list = subst (λ (k : Kept Reading). IsRising k.list) c.self.view_is c.self.invariant in
    let list : c.flag_run.new.kept.list ≡ with_flag c.args.from c.args.to c.args.flag c.args.self.now.list =
    ap (λ (k : Roomy Reading). k.list) c.flag_run.ensures
    ∙ ap (λ (k : Kept Reading). take first k.list ++ (map (flagged_where true c.args.flag) (take (end - first) (drop first k.list)) ++ drop end k.list)) c.self.view_is
    ∙ flagged c.args.from c.args.to c.args.flag c.args.self.now.list first end rising c.places-first.ensures.first c.places-first.ensures.end in
    subst IsRising (sym list) (with_flag_rises c.args.from c.args.to c.args.flag c.args.self.now.list rising)
