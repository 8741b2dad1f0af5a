-- What the rows rate stands by cases.
use Rattle.std.proofs.Common.{◌∙◌, sym, subst, List}
use Rattle.rating_tables.specs.Table.{Row, IsTable}
use Rattle.rating_tables.specs.RatedDischarge.{IsRated}
use Rattle.rating_tables.proofs.TableLawLemmas.{rated_stands}
use Rattle.rating_tables.proofs.table.Table.rate.Goals as goal

pub returns-clause-cases : goal.returns-clause-cases
returns-clause-cases c =
    let whole = rated_stands c.as_slice.result.now c.args.stage (subst IsTable (sym c.as_slice.ensures.value) c.self.invariant) in
    subst (λ (rows : List Row). IsRated rows c.args.stage c.find_discharge.result) (c.as_slice.ensures.value ∙ c.self.view_is)
    (subst (IsRated c.as_slice.result.now c.args.stage) (sym c.find_discharge.ensures) whole)
