-- Each kind of room keeps the station as it is.
use Rattle.std.proofs.Common.{◌≡◌, sym, subst}
use Rattle.station_inputs.specs.KeptStation.{IsStation, KeptStation}
use Rattle.station_inputs.proofs.stations.Station.prepare.Goals as goal
use Rattle.station_inputs.proofs.stations.Station.prepare.Goals.{in-PutReadings+in_ok-reserve-in-PutReadings, in-PutCorrection+in_ok-reserve_entry-in-PutCorrection, in-PutShift+in_ok-reserve_entry-in-PutShift, in-PutPeriod+in_ok-reserve_period-in-PutPeriod, in-PutEstimate+in_ok-reserve_estimate-in-PutEstimate, in-PutMeasurement+in_ok-reserve_measurement-in-PutMeasurement, in-SetEdition+in_ok-reserve_edition-in-SetEdition, in-AddStation-1, in-DropReadings-1, in-FlagReadings-1, in-DropCorrection-1, in-DropShift-1, in-DropPeriod-1, in-DropEstimate-1, in-DropMeasurement-1, in-Review-1, in-Decide-1}

is : (one other : KeptStation) → one ≡ other → IsStation other.station → IsStation one.station
is one other e k = subst (λ (s : KeptStation). IsStation s.station) (sym e) k

pub returns-clause-kept : goal.returns-clause-kept
returns-clause-kept c =
    elim c.match-what.branch [
      | in-PutReadings+in_ok-reserve-in-PutReadings w ↦ is _ _ w.self-is w.reserve.ensures.kept
      | in-PutCorrection+in_ok-reserve_entry-in-PutCorrection w ↦ is _ _ w.self-is w.reserve_entry.ensures.kept
      | in-PutShift+in_ok-reserve_entry-in-PutShift w ↦ is _ _ w.self-is w.reserve_entry-in-PutShift.ensures.kept
      | in-PutPeriod+in_ok-reserve_period-in-PutPeriod w ↦ is _ _ w.self-is w.reserve_period.ensures.kept
      | in-PutEstimate+in_ok-reserve_estimate-in-PutEstimate w ↦ is _ _ w.self-is w.reserve_estimate.ensures.kept
      | in-PutMeasurement+in_ok-reserve_measurement-in-PutMeasurement w ↦ is _ _ w.self-is w.reserve_measurement.ensures.kept
      | in-SetEdition+in_ok-reserve_edition-in-SetEdition w ↦ is _ _ w.self-is w.reserve_edition.ensures.kept
      | in-AddStation-1 w ↦ is _ _ w.self-is c.site-site.ensures.kept
      | in-DropReadings-1 w ↦ is _ _ w.self-is c.site-site.ensures.kept
      | in-FlagReadings-1 w ↦ is _ _ w.self-is c.site-site.ensures.kept
      | in-DropCorrection-1 w ↦ is _ _ w.self-is c.site-site.ensures.kept
      | in-DropShift-1 w ↦ is _ _ w.self-is c.site-site.ensures.kept
      | in-DropPeriod-1 w ↦ is _ _ w.self-is c.site-site.ensures.kept
      | in-DropEstimate-1 w ↦ is _ _ w.self-is c.site-site.ensures.kept
      | in-DropMeasurement-1 w ↦ is _ _ w.self-is c.site-site.ensures.kept
      | in-Review-1 w ↦ is _ _ w.self-is c.site-site.ensures.kept
      | in-Decide-1 w ↦ is _ _ w.self-is c.site-site.ensures.kept
    ]
