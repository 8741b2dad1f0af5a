-- What is left is apart.
use Rattle.std.specs.Prelude.{List}
use Rattle.std.proofs.Common.{subst, sym}
use Rattle.ratings.specs.Numbered.{AreRatings}
use Rattle.ratings.specs.Spans.{Span}
use Rattle.ratings.proofs.RatingsLemmas.{without_period_are}
use Rattle.ratings.proofs.station_ratings.Ratings.drop_period.Goals as goal

pub invariant_of-self : goal.invariant_of-self
invariant_of-self c =
    subst (λ (l : List Span). AreRatings (record { tables = c.self.inside.tables.list; periods = l })) (sym c.take_out.ensures.list)
    (without_period_are c.args.from (record { tables = c.self.inside.tables.list; periods = c.self.inside.periods.list }) c.self.invariant)
