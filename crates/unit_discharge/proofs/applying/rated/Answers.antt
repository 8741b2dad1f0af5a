-- A rating's table gives none but discharges.
use Rattle.std.proofs.Common.{ap, subst, ◌∙◌, List}
use Rattle.rating_tables.specs.RatedDischarge.{IsRated}
use Rattle.rating_tables.specs.Table.{Row}
use Rattle.rating_tables.specs.declared.table.Rated.TheVariants.{Value}
use Rattle.ratings.specs.Parts.{Part}
use Rattle.rating_tables.proofs.RatedRangeLemmas.{rated-IsDischarge}
use Rattle.unit_discharge.proofs.applying.rated.Goals as goal

pub returns-in-Value-clause-range : goal.returns-in-Value-clause-range
returns-in-Value-clause-range c =
    rated-IsDischarge c.args.part.now.rows c.args.stage c.in-Value.discharge c.requires.ranges
    (subst (λ (rows : List Row). IsRated rows c.args.stage (Value c.in-Value.discharge)) (c.table.ensures ∙ ap (λ (p : Part). p.rows) c.part.view_is) c.in-Value.ensures.cases)
