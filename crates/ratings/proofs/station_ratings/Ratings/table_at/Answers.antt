-- The period in force is of a rating that is there.
use Rattle.std.specs.Prelude.{IsSome}
use Rattle.std.proofs.Common.{subst, sym}
use Rattle.ratings.specs.Numbered.{rating_of}
use Rattle.ratings.specs.Spans.{Span}
use Rattle.ratings.proofs.CuttingLemmas.{held_known}
use Rattle.ratings.proofs.station_ratings.Ratings.table_at.Goals as goal

pub table_of-requires : goal.table_of-requires
table_of-requires c =
    subst (λ (p : Span). IsSome (rating_of p.rating c.self.inside.tables.list)) (sym c.period.view_is)
    (held_known c.args.at c.self.inside.tables.list c.self.inside.periods.list c.in_ok-period.period c.self.invariant.known c.in_ok-period.ensures)
