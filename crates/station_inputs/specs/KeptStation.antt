-- What is kept of one station, as contracts see it: its state, and room beside it.
use Rattle.std.specs.Prelude.{ℕ, ◌≤◌, List, All}
use Rattle.fixed_units.specs.Quantities.{IsSite, IsStage, IsStamp, most_gap}
use Rattle.fixed_units.specs.declared.readings.Reading.{Reading}
use Rattle.readings.specs.Readings.{IsRising}
use Rattle.curves.specs.declared.entries.Entry.{Entry}
use Rattle.curves.specs.Entries.{IsSeries}
use Rattle.curves.specs.Corrections.{Corrections, AreCorrections}
use Rattle.civil_days.specs.Starts.{IsZone}
use Rattle.edits.specs.Lawful.{IsPutEstimate, IsPutMeasurement, IsPutPeriod, IsSetEdition}
use Rattle.edits.specs.declared.estimates.Estimate.{Estimate}
use Rattle.edits.specs.declared.measurements.Measurement.{Measurement}
use Rattle.ratings.specs.Numbered.{AreRatings}
use Rattle.rising.specs.Lists as lists
use Rattle.station_inputs.specs.Series.{SeriesRoom}
use Rattle.station_inputs.specs.Stations.{StationState, edition_day, estimated_day, number_of}
use Rattle.station_inputs.specs.declared.station_editions.Edition.{Edition}

-- readings in force: stages at stamps, rising by instant
pub record AreReadings (readings : List Reading) : Type 0 where
  pub rising : IsRising readings
  pub stages : All (λ r. IsStage r.raw) readings
  pub stamps : All (λ r. IsStamp r.at) readings

-- the entries of the correction sets and of the shifts stand at stamps
pub record AreAtStamps (sets : Corrections) (series : List Entry) : Type 0 where
  pub first : All (λ e. IsStamp e.at) sets.first
  pub second : All (λ e. IsStamp e.at) sets.second
  pub third : All (λ e. IsStamp e.at) sets.third
  pub shifts : All (λ e. IsStamp e.at) series

-- measurements rise by number, and each is one that may be put
pub record AreMeasurements (measurements : List Measurement) : Type 0 where
  pub rising : lists.IsRising number_of measurements
  pub each : All IsPutMeasurement measurements

-- estimates rise by day, and each is one that may be put
pub record AreEstimates (estimates : List Estimate) : Type 0 where
  pub rising : lists.IsRising estimated_day estimates
  pub each : All IsPutEstimate estimates

-- editions rise by day, and each is one that may be set
abbrev pub IsKeptEdition : Edition → Type 0
IsKeptEdition edition = IsSetEdition edition.day edition.least

pub record AreEditions (editions : List Edition) : Type 0 where
  pub rising : lists.IsRising edition_day editions
  pub each : All IsKeptEdition editions

-- what each station keeps to
pub record IsStation (station : StationState) : Type 0 where
  pub site_range : IsSite station.site
  pub zone_is : IsZone station.zone
  pub gap_low : 1 ≤ station.gap
  pub gap_high : station.gap ≤ most_gap
  pub corrections_are : AreCorrections station.corrections
  pub shifts_are : IsSeries station.shifts
  pub entries_at_stamps : AreAtStamps station.corrections station.shifts
  pub ratings_are : AreRatings station.ratings
  pub periods_are : All IsPutPeriod station.ratings.periods
  pub measurements_are : AreMeasurements station.measurements
  pub estimates_are : AreEstimates station.estimates
  pub editions_are : AreEditions station.editions
  pub readings_are : AreReadings station.readings

-- a station that is kept, and for how many more readings, entries of each series, ratings, periods, measurements, estimates and
-- editions it has room
pub record KeptStation : Type 0 where
  pub station : StationState
  pub spare : ℕ
  pub entry_room : SeriesRoom
  pub rating_room : ℕ
  pub period_room : ℕ
  pub measurement_room : ℕ
  pub estimate_room : ℕ
  pub edition_room : ℕ
