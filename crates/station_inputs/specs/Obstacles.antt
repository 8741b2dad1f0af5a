-- What of a station stands in the way of an edit of it.
use Rattle.std.specs.Prelude.{Bool, is_some, Option, Some, None, option_map, if◌then◌else◌, ℤ}
use Rattle.curves.specs.Entries.{stands_at}
use Rattle.edits.specs.declared.content.What.{What}
use Rattle.edits.specs.declared.content.What.TheVariants.{DropReadings, FlagReadings, DropCorrection, DropShift, AddRating, PutPeriod, DropPeriod, DropEstimate, DropMeasurement}
use Rattle.ratings.specs.Numbered.{period_from, rating_of}
use Rattle.ratings.specs.Periods.{overlap}
use Rattle.readings.specs.Readings.{in_span}
use Rattle.rising.specs.Ends.{first}
use Rattle.station_inputs.specs.Stations.{StationState, estimate_of, measurement_of, series_of}
use Rattle.station_inputs.specs.declared.obstacles.Obstacle.{Obstacle}
use Rattle.station_inputs.specs.declared.obstacles.Obstacle.TheVariants.{NoEntry, NoRating, PeriodOverlap, RatingExists}
use Rattle.station_inputs.specs.declared.series.StationSeries.TheVariants.{Correction, Shift}

-- a drop needs what it takes out, and a flagging what it flags
abbrev pub unless_there : Bool → Option Obstacle
unless_there there = if there then None else Some NoEntry

-- a rating is never replaced
abbrev pub rating_obstacle : Bool → Option Obstacle
rating_obstacle there = if there then Some RatingExists else None

-- a period needs its rating, and shares no instant with a period of another start
abbrev pub period_obstacle : Bool → Option ℤ → Option Obstacle
period_obstacle rated overlapped = if rated then option_map PeriodOverlap overlapped else Some NoRating

-- what stands in the way of an edit of each kind: of a drop or a flagging that nothing stands where it would act, of a rating that
-- one has its number, and of a period that its rating is not there, or else the first period of another start that shares an instant
abbrev pub obstacle : StationState → What → Option Obstacle
obstacle s (DropReadings from to) = unless_there (is_some (first (in_span from to s.readings)))
obstacle s (FlagReadings from to flag) = unless_there (is_some (first (in_span from to s.readings)))
obstacle s (DropCorrection set at) = unless_there (stands_at at (series_of (Correction set) s))
obstacle s (DropShift at) = unless_there (stands_at at (series_of Shift s))
obstacle s (AddRating rating table) = rating_obstacle (is_some (rating_of rating s.ratings.tables))
obstacle s (PutPeriod period) = period_obstacle (is_some (rating_of period.rating s.ratings.tables)) (overlap period s.ratings.periods)
obstacle s (DropPeriod from) = unless_there (is_some (period_from from s.ratings.periods))
obstacle s (DropEstimate day) = unless_there (is_some (estimate_of day s))
obstacle s (DropMeasurement number) = unless_there (is_some (measurement_of number s))
obstacle s _ = None
