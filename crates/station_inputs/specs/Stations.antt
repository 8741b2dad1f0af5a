-- The inputs in force of one station, what an edit makes of them, and the inputs of its days.
use Rattle.std.specs.Prelude.{ℕ, ◌*◌, Bool, ◌&&◌, List, [], Option, Some, None, option_and_then, option_map, ℤ, int_le, ◌+ℤ◌, pos}
use Rattle.fixed_units.specs.Quantities.{SiteNumber}
use Rattle.fixed_units.specs.declared.readings.Reading.{Reading}
use Rattle.rising.specs.Ends.{first, last}
use Rattle.rising.specs.Lists as lists
use Rattle.readings.specs.Readings.{put_all, with_flag, without_span}
use Rattle.readings.specs.Window.{window}
use Rattle.curves.specs.declared.entries.Entry.{Entry}
use Rattle.curves.specs.Corrections.{Corrections}
use Rattle.curves.specs.Entries as series
use Rattle.curves.specs.Entries.{entry_of}
use Rattle.civil_days.specs.Starts.{day_start_of}
use Rattle.day_inputs.specs.DayInputs.{day_inputs}
use Rattle.day_inputs.specs.declared.day_inputs.DayInputs.{DayInputs}
use Rattle.edits.specs.declared.content.What.{What}
use Rattle.edits.specs.declared.content.What.TheVariants.{AddStation, SetStation, PutReadings, DropReadings, FlagReadings, PutCorrection, DropCorrection, PutShift, DropShift, AddRating, PutPeriod, DropPeriod, PutEstimate, DropEstimate, PutMeasurement, DropMeasurement, Review, Decide, SetEdition}
use Rattle.edits.specs.declared.estimates.Estimate.{Estimate}
use Rattle.edits.specs.declared.measurements.Measurement.{Measurement}
use Rattle.ratings.specs.Numbered.{StationRatings, with_period, with_rating, without_period}
use Rattle.station_inputs.specs.Series.{corrections_with, entries_in, shifts_with}
use Rattle.station_inputs.specs.declared.station_editions.Edition.{Edition}
use Rattle.station_inputs.specs.declared.series.StationSeries.{StationSeries}
use Rattle.station_inputs.specs.declared.series.StationSeries.TheVariants.{Correction, Shift}

-- what is in force at a station
pub record StationState : Type 0 where
  pub site : SiteNumber
  pub name : List ℕ
  pub zone : List ℕ
  pub gap : ℕ
  pub stage_array : List ℕ
  pub discharge_array : List ℕ
  pub corrections : Corrections
  pub shifts : List Entry
  pub ratings : StationRatings
  pub measurements : List Measurement
  pub estimates : List Estimate
  pub editions : List Edition
  pub readings : List Reading

-- a station as it is added: without corrections, shifts, ratings, measurements, estimates, editions and readings
abbrev pub new_station : SiteNumber → List ℕ → List ℕ → ℕ → List ℕ → List ℕ → StationState
new_station site name zone gap stage_array discharge_array = record {
  site = site;
  name = name;
  zone = zone;
  gap = gap;
  stage_array = stage_array;
  discharge_array = discharge_array;
  corrections = record { first = []; second = []; third = [] };
  shifts = [];
  ratings = record { tables = []; periods = [] };
  measurements = [];
  estimates = [];
  editions = [];
  readings = [];
}

-- a station described anew: all else of it stays
abbrev pub described : List ℕ → ℕ → List ℕ → List ℕ → StationState → StationState
described name gap stage_array discharge_array s = record {
  site = s.site;
  name = name;
  zone = s.zone;
  gap = gap;
  stage_array = stage_array;
  discharge_array = discharge_array;
  corrections = s.corrections;
  shifts = s.shifts;
  ratings = s.ratings;
  measurements = s.measurements;
  estimates = s.estimates;
  editions = s.editions;
  readings = s.readings;
}

-- a station with these inputs: its description stays
abbrev pub with_inputs : Corrections → List Entry → StationRatings → List Measurement → List Estimate → List Edition → List Reading → StationState → StationState
with_inputs corrections shifts ratings measurements estimates editions readings s = record {
  site = s.site;
  name = s.name;
  zone = s.zone;
  gap = s.gap;
  stage_array = s.stage_array;
  discharge_array = s.discharge_array;
  corrections = corrections;
  shifts = shifts;
  ratings = ratings;
  measurements = measurements;
  estimates = estimates;
  editions = editions;
  readings = readings;
}

-- a station with its readings changed: all else of it stays
abbrev pub with_readings : (List Reading → List Reading) → StationState → StationState
with_readings change s = with_inputs s.corrections s.shifts s.ratings s.measurements s.estimates s.editions (change s.readings) s

-- the entries of a series of a station
abbrev pub series_of : StationSeries → StationState → List Entry
series_of which s = entries_in which s.corrections s.shifts

-- a station with one of its series changed: all else of it stays
abbrev pub with_series : StationSeries → (List Entry → List Entry) → StationState → StationState
with_series which change s =
    with_inputs (corrections_with which change s.corrections) (shifts_with which change s.shifts) s.ratings s.measurements s.estimates s.editions s.readings s

-- a station with an entry put into a series, in place of the one at its instant, and with the one at an instant taken out
abbrev pub with_entry : StationSeries → Entry → StationState → StationState
with_entry which entry s = with_series which (series.put entry) s

abbrev pub without_entry : StationSeries → ℤ → StationState → StationState
without_entry which at s = with_series which (series.without at) s

-- a station with its ratings changed: all else of it stays
abbrev pub with_ratings : (StationRatings → StationRatings) → StationState → StationState
with_ratings change s = with_inputs s.corrections s.shifts (change s.ratings) s.measurements s.estimates s.editions s.readings s

-- the number that a measurement stands at, and the measurement of a number
abbrev pub number_of : Measurement → ℤ
number_of measurement = pos measurement.number

abbrev pub measurement_of : ℕ → StationState → Option Measurement
measurement_of number s = lists.at number_of (pos number) s.measurements

-- a station with its measurements changed: all else of it stays
abbrev pub with_measurements : (List Measurement → List Measurement) → StationState → StationState
with_measurements change s = with_inputs s.corrections s.shifts s.ratings (change s.measurements) s.estimates s.editions s.readings s

-- the day that an estimate stands at, the estimate of a day, and what it says
abbrev pub estimated_day : Estimate → ℤ
estimated_day estimate = estimate.day

abbrev pub estimate_of : ℤ → StationState → Option Estimate
estimate_of day s = lists.at estimated_day day s.estimates

abbrev pub estimated_discharge : StationState → ℤ → Option ℤ
estimated_discharge s day = option_map (λ (e : Estimate). e.discharge) (estimate_of day s)

-- a station with its estimates changed: all else of it stays
abbrev pub with_estimates : (List Estimate → List Estimate) → StationState → StationState
with_estimates change s = with_inputs s.corrections s.shifts s.ratings s.measurements (change s.estimates) s.editions s.readings s

-- the day that an edition is set from
abbrev pub edition_day : Edition → ℤ
edition_day edition = edition.day

abbrev pub edition_of : ℤ → Option ℕ → Edition
edition_of day least = record { day = day; least = least }

-- of some editions the one in force on a day, the last whose day is not after it, and the first one after it
abbrev pub edition_on : ℤ → List Edition → Option Edition
edition_on day editions = last (lists.up_to edition_day day editions)

abbrev pub edition_after : ℤ → List Edition → Option Edition
edition_after day editions = first (lists.after edition_day day editions)

-- the least cover in force on a day: that of the edition in force, where it has one
abbrev pub least_cover : StationState → ℤ → Option ℕ
least_cover s day = option_and_then (λ (e : Edition). e.least) (edition_on day s.editions)

-- an edition of one day, where it is put, is in force on another: it is not of a later day, nor is the one in force of a later day
-- than its own
abbrev pub governs : ℤ → ℤ → Option Edition → Bool
governs own day None = int_le own day
governs own day (Some kept) = int_le own day && int_le kept.day own

-- a station with its editions changed: all else of it stays
abbrev pub with_editions : (List Edition → List Edition) → StationState → StationState
with_editions change s = with_inputs s.corrections s.shifts s.ratings s.measurements s.estimates (change s.editions) s.readings s

-- a station after an edit of it, which keeps its site and its zone; an addition is none of it
abbrev pub station_after : What → StationState → StationState
station_after (AddStation name zone gap stage_array discharge_array) s = s
station_after (SetStation name gap stage_array discharge_array) s = described name gap stage_array discharge_array s
station_after (PutReadings readings) s = with_readings (put_all readings) s
station_after (DropReadings from to) s = with_readings (without_span from to) s
station_after (FlagReadings from to flag) s = with_readings (with_flag from to flag) s
station_after (PutCorrection set at curve prorate) s = with_entry (Correction set) (entry_of at curve prorate) s
station_after (DropCorrection set at) s = without_entry (Correction set) at s
station_after (PutShift at curve prorate) s = with_entry Shift (entry_of at curve prorate) s
station_after (DropShift at) s = without_entry Shift at s
station_after (AddRating rating table) s = with_ratings (with_rating (record { number = rating; rows = table })) s
station_after (PutPeriod period) s = with_ratings (with_period period) s
station_after (DropPeriod from) s = with_ratings (without_period from) s
station_after (PutEstimate estimate) s = with_estimates (lists.put estimated_day estimate) s
station_after (DropEstimate day) s = with_estimates (lists.without estimated_day day) s
station_after (PutMeasurement measurement) s = with_measurements (lists.put number_of measurement) s
station_after (DropMeasurement number) s = with_measurements (lists.without number_of (pos number)) s
station_after (Review from to) s = s
station_after (Decide from to decision) s = s
station_after (SetEdition day least) s = with_editions (lists.put edition_day (edition_of day least)) s

-- when a station's day begins
abbrev pub day_start : StationState → ℤ → ℤ
day_start station day = day_start_of station.zone day

-- the window of a day of a station
abbrev pub station_window : StationState → ℤ → List Reading
station_window s day = window (day_start s day) (day_start s (day +ℤ pos 1)) (pos (60 * s.gap)) s.readings

-- the inputs of a day of a station
abbrev pub station_day : StationState → ℤ → DayInputs
station_day s day = day_inputs s.gap s.stage_array s.discharge_array (day_start s day) (day_start s (day +ℤ pos 1)) s.corrections s.shifts s.ratings s.readings (estimated_discharge s day) (least_cover s day)
