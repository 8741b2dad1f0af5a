-- The ratings with the period keep to what they must.
use Rattle.std.specs.Prelude.{◌≡◌, None, IsSome}
use Rattle.std.proofs.Common.{subst, sym}
use Rattle.ratings.specs.Numbered.{rating_of}
use Rattle.ratings.specs.Periods.{overlap}
use Rattle.station_inputs.specs.KeptStation.{KeptStation}
use Rattle.station_inputs.proofs.KeptLemmas.{period_put}
use Rattle.station_inputs.proofs.stations.Station.put_period.Goals as goal

pub invariant_of-self : goal.invariant_of-self
invariant_of-self c =
    period_put _ c.args.period c.put_period.new.self.ratings c.self.invariant c.requires.lawful
    (subst (λ (k : KeptStation). IsSome (rating_of c.args.period.rating k.station.ratings.tables)) (sym c.self.view_is) c.requires.known)
    (subst (λ (k : KeptStation). overlap c.args.period k.station.ratings.periods ≡ None) (sym c.self.view_is) c.requires.apart) c.put_period.ensures.ratings

pub returns-clause-kept : goal.returns-clause-kept
returns-clause-kept c =
    period_put _ c.args.period c.put_period.new.self.ratings c.self.invariant c.requires.lawful
    (subst (λ (k : KeptStation). IsSome (rating_of c.args.period.rating k.station.ratings.tables)) (sym c.self.view_is) c.requires.known)
    (subst (λ (k : KeptStation). overlap c.args.period k.station.ratings.periods ≡ None) (sym c.self.view_is) c.requires.apart) c.put_period.ensures.ratings
