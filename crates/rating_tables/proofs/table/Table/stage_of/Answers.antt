-- What the rows have stands by cases.
use Rattle.std.proofs.Common.{◌∙◌, sym, subst, List}
use Rattle.rating_tables.specs.Table.{Row, IsTable}
use Rattle.rating_tables.specs.RatedDischarge.{IsStageOf}
use Rattle.rating_tables.proofs.StageLawLemmas.{stage_stands}
use Rattle.rating_tables.proofs.table.Table.stage_of.Goals as goal

pub returns-clause-cases : goal.returns-clause-cases
returns-clause-cases c =
    let whole = stage_stands c.as_slice.result.now c.args.discharge (subst IsTable (sym c.as_slice.ensures.value) c.self.invariant) in
    subst (λ (rows : List Row). IsStageOf rows c.args.discharge c.find_stage.result) (c.as_slice.ensures.value ∙ c.self.view_is)
    (subst (IsStageOf c.as_slice.result.now c.args.discharge) (sym c.find_stage.ensures) whole)
