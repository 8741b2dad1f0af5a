-- What the station keeps is in range.
use Rattle.std.proofs.Common.{arith, subst, sym}
use Rattle.std.proofs.lemmas.Int.{ints}
use Rattle.curves.proofs.AmountLemmas.{series-IsAmount}
use Rattle.ratings.specs.Numbered.{rows_in_force}
use Rattle.fixed_units.specs.Quantities.{IsAmount}
use Rattle.measurements.proofs.KeptLemmas.{kept_measurement, lent_rating, rating_in_force}
use Rattle.measurements.proofs.measuring.station_departure.Goals as goal

pub by_rating-requires-clause-measurement : goal.by_rating-requires-clause-measurement
by_rating-requires-clause-measurement c =
    kept_measurement c.args.number c.args.station.now.station c.in_ok-measurement.measurement.now c.site-site.ensures.kept c.in_ok-measurement.ensures.measurement

pub by_rating-requires-clause-stage : goal.by_rating-requires-clause-stage
by_rating-requires-clause-stage c =
    let m = kept_measurement c.args.number c.args.station.now.station c.in_ok-measurement.measurement.now c.site-site.ensures.kept c.in_ok-measurement.ensures.measurement in
    let amount = subst IsAmount (sym c.shift-shift.ensures)
    (series-IsAmount c.in_ok-measurement.measurement.now.at c.in_ok-measurement.measurement.now.gage c.args.station.now.station.shifts c.site-site.ensures.kept.shifts_are.amounts) in
    record { low = omega (arith, ints, m.gage.low, amount.low); high = omega (arith, ints, m.gage.high, amount.high) }

pub by_rating-requires-clause-rating : goal.by_rating-requires-clause-rating
by_rating-requires-clause-rating c =
    let ratings = c.args.station.now.station.ratings in
    let since = c.in_ok-measurement.measurement.now.at in
    lent_rating c.table_at.result (rows_in_force since ratings) c.table_at.ensures (rating_in_force ratings c.site-site.ensures.kept.ratings_are since)
