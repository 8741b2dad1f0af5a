-- The ratings with one more keep to what they must.
use Rattle.std.specs.Prelude.{◌≡◌, None}
use Rattle.std.proofs.Common.{subst, sym}
use Rattle.ratings.specs.Numbered.{rating_of}
use Rattle.station_inputs.specs.KeptStation.{KeptStation}
use Rattle.station_inputs.proofs.KeptLemmas.{rating_added}
use Rattle.station_inputs.proofs.stations.Station.add_rating.Goals as goal

pub invariant_of-self : goal.invariant_of-self
invariant_of-self c =
    rating_added _ (record { number = c.args.rating; rows = c.args.table }) c.add.new.self.ratings c.self.invariant c.requires.lawful
    (subst (λ (k : KeptStation). rating_of c.args.rating k.station.ratings.tables ≡ None) (sym c.self.view_is) c.requires.absent) c.add.ensures.ratings

pub returns-clause-kept : goal.returns-clause-kept
returns-clause-kept c =
    rating_added _ (record { number = c.args.rating; rows = c.args.table }) c.add.new.self.ratings c.self.invariant c.requires.lawful
    (subst (λ (k : KeptStation). rating_of c.args.rating k.station.ratings.tables ≡ None) (sym c.self.view_is) c.requires.absent) c.add.ensures.ratings
