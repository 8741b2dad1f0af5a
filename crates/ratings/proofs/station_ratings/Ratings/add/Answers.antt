-- What is put is a rating.
use Rattle.std.proofs.Common.{subst, sym, List}
use Rattle.ratings.specs.Numbered.{Numbered, AreRatings}
use Rattle.ratings.proofs.RatingsLemmas.{more_ratings_are}
use Rattle.ratings.proofs.station_ratings.Ratings.add.Goals as goal

pub invariant_of-self : goal.invariant_of-self
invariant_of-self c =
    subst (λ (l : List Numbered). AreRatings (record { tables = l; periods = c.self.inside.periods.list })) (sym c.put.ensures.list)
    (more_ratings_are (record { number = c.args.number; rows = c.args.table }) (record { tables = c.self.inside.tables.list; periods = c.self.inside.periods.list })
    c.self.invariant c.requires.rating)
