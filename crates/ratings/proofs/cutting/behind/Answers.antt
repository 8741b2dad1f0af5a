-- What is left is of ratings that are there.
use Rattle.std.specs.Prelude.{All}
use Rattle.std.proofs.Common.{subst}
use Rattle.std.proofs.lemmas.List.Elements.{All-tail}
use Rattle.ratings.proofs.CuttingLemmas.{IsKnown}
use Rattle.ratings.proofs.cutting.behind.Goals as goal

pub returns-then-is_cut-clause-known : goal.returns-then-is_cut-clause-known
returns-then-is_cut-clause-known c =
    All-tail (IsKnown c.args.tables.now.list) c.in_ok-period.period.now c.in_ok-period.rest.now
    (subst (All (IsKnown c.args.tables.now.list)) c.in_ok-period.ensures.cases.0 c.requires)
