-- What a station keeps is in range: its measurements, and the rating in force.
use Rattle.std.proofs.Common.{◌≡◌, sym, subst, List, Option, Some, None, ℕ, ℤ, pos}
use Rattle.std.specs.Borrow.{Bor}
use Rattle.std.specs.Ordering.{int_eq}
use Rattle.std.specs.Prelude.{IfSome, IsSome, option_map}
use Rattle.edits.specs.Lawful.{IsPutMeasurement}
use Rattle.edits.specs.declared.measurements.Measurement.{Measurement}
use Rattle.rating_tables.specs.Table.{Row, IsRating}
use Rattle.ratings.specs.Numbered as numbered
use Rattle.ratings.specs.Numbered.{Numbered, AreRatings, StationRatings, rating_of, rows_found, rows_in_force, rows_of}
use Rattle.ratings.specs.Periods.{in_force, is_in_force}
use Rattle.ratings.specs.Spans.{Span}
use Rattle.ratings.proofs.CuttingLemmas.{found_has}
use Rattle.station_inputs.specs.KeptStation.{IsStation}
use Rattle.station_inputs.specs.Stations.{StationState, measurement_of, number_of}

pub kept_measurement : (number : ℕ) (s : StationState) (m : Measurement) → IsStation s → Some m ≡ measurement_of number s → IsPutMeasurement m
kept_measurement number s m h e =
    subst (λ (o : Option Measurement). IfSome o IsPutMeasurement) (sym e)
    (found_has IsPutMeasurement (λ (x : Measurement). int_eq (number_of x) (pos number)) s.measurements h.measurements_are.each)

rows_rating : (o : Option Numbered) → IfSome o (λ r. IsRating r.rows) → IsSome o → IsRating (rows_found o)
rows_rating None h k = absurd (cc)
rows_rating (Some rating) h k = h

module _ (ratings : StationRatings) (h : AreRatings ratings) where
  held_rating : (o : Option Span) → IfSome o (λ p. IsSome (rating_of p.rating ratings.tables)) → IfSome (option_map (λ (p : Span). rows_of p.rating ratings.tables) o) IsRating
  held_rating None k = tt
  held_rating (Some p) k =
      rows_rating (rating_of p.rating ratings.tables)
      (found_has (λ (r : Numbered). IsRating r.rows) (λ (r : Numbered). int_eq (numbered.number_of r) (pos p.rating)) ratings.tables h.rows) k

  pub rating_in_force : (at : ℤ) → IfSome (rows_in_force at ratings) IsRating
  rating_in_force since =
      held_rating (in_force since ratings.periods) (found_has (λ (p : Span). IsSome (rating_of p.rating ratings.tables)) (is_in_force since) ratings.periods h.known)

pub lent_rating : (r : Option (Bor (List Row))) (o : Option (List Row)) → option_map (λ t. t.now) r ≡ o → IfSome o IsRating → IfSome r (λ t. IsRating t.now)
lent_rating None o e h = tt
lent_rating (Some t) o e h = subst (λ (x : Option (List Row)). IfSome x IsRating) (sym e) h
