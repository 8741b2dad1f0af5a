-- The part in force is one of the parts, each of which has a rating's table.
use Rattle.std.proofs.Common.{subst, sym, Option}
use Rattle.std.specs.Prelude.{IfSome}
use Rattle.rating_tables.specs.Table.{IsRating}
use Rattle.ratings.specs.Parts.{Part}
use Rattle.unit_discharge.proofs.PartLemmas.{part-holds}
use Rattle.unit_discharge.proofs.applying.discharge_of.Goals as goal

pub rated-requires : goal.rated-requires
rated-requires c =
    let P = λ (p : Part). IsRating p.rows in
    let found = part-holds P c.args.at c.args.periods.now c.requires.tables in
    subst (λ (o : Option Part). IfSome o P) (sym c.in-Some.ensures) found
