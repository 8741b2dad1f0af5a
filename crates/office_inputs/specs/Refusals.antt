-- Which edits the inputs in force refuse, and for which cause: the first that holds.
use Rattle.std.specs.Prelude.{ℕ, Bool, true, false, not, ◌&&◌, List, length, sum_by, Option, Some, None, is_some, option_map, if◌then◌else◌}
use Rattle.approval.specs.declared.objections.Objection.{Objection}
use Rattle.approval.specs.declared.objections.Objection.TheVariants as objections
use Rattle.edits.specs.declared.content.What.{What}
use Rattle.edits.specs.declared.content.What.TheVariants.{AddStation}
use Rattle.edits.specs.declared.content.Edit.{Edit}
use Rattle.fixed_units.specs.Quantities.{SiteNumber}
use Rattle.office_inputs.specs.Stations.{station_of, stations_after}
use Rattle.office_inputs.specs.declared.limits.Limits.{Limits}
use Rattle.station_inputs.specs.Counts.{passed_count, passes, passes_a_day}
use Rattle.station_inputs.specs.Obstacles.{obstacle}
use Rattle.station_inputs.specs.Stations.{StationState}
use Rattle.station_inputs.specs.declared.counts.Counted.{Counted}
use Rattle.station_inputs.specs.declared.counts.Counted.TheVariants as counted
use Rattle.station_inputs.specs.declared.obstacles.Obstacle.{Obstacle}
use Rattle.station_inputs.specs.declared.obstacles.Obstacle.TheVariants as obstacles
use Rattle.office_inputs.specs.declared.refusals.Refusal.{Refusal}
use Rattle.office_inputs.specs.declared.refusals.Refusal.TheVariants.{NoStation, StationExists, Limit, NoRating, RatingExists, PeriodOverlap, NoEntry, NotInReview, SamePerson, NotApproved, AlreadyApproved}
use Rattle.office_inputs.specs.declared.refusals.Which.{Which}
use Rattle.office_inputs.specs.declared.refusals.Which.TheVariants as counts

-- whether a kind of edit adds the station: every other kind needs it
abbrev pub adds_station : What → Bool
adds_station (AddStation name zone gap stage_array discharge_array) = true
adds_station _ = false

abbrev pub is_kept : List StationState → SiteNumber → Bool
is_kept stations site = is_some (station_of stations site)

-- the readings of all stations, erroneous ones among them
abbrev pub reading_count : List StationState → ℕ
reading_count stations = sum_by (λ (s : StationState). length s.readings) stations

-- the station of a site before an edit and after it, where it is kept at both: some local day of it has too many readings then
abbrev pub passes_a_day_of : ℕ → Option StationState → Option StationState → Bool
passes_a_day_of limit None after = false
passes_a_day_of limit (Some s) None = false
passes_a_day_of limit (Some s) (Some t) = passes_a_day limit s t

-- the limit of a count of one station
abbrev pub limit_of : Counted → Which
limit_of counted.Ratings = counts.Ratings
limit_of counted.Entries = counts.Entries
limit_of counted.Periods = counts.Periods
limit_of counted.Measurements = counts.Measurements
limit_of counted.Editions = counts.Editions

-- the first of a station's other counts that passes its limit
abbrev pub passed_alone : Option StationState → Option StationState → Option Which
passed_alone None after = None
passed_alone (Some s) None = None
passed_alone (Some s) (Some t) = option_map limit_of (passed_count s t)

-- the first count that the edit would raise past its limit
abbrev pub passed_limit : Limits → SiteNumber → List StationState → List StationState → Option Which
passed_limit limits site before after =
    if passes limits.stations (length before) (length after) then Some counts.Stations
    else (if passes limits.readings (reading_count before) (reading_count after) then Some counts.Readings
    else (if passes_a_day_of limits.day_readings (station_of before site) (station_of after site) then Some counts.DayReadings
    else passed_alone (station_of before site) (station_of after site)))

-- what of the station stands in the way of an edit of it, as a refusal
abbrev pub refusal_for : Obstacle → Refusal
refusal_for obstacles.NoRating = NoRating
refusal_for obstacles.RatingExists = RatingExists
refusal_for (obstacles.PeriodOverlap from) = PeriodOverlap from
refusal_for obstacles.NoEntry = NoEntry

-- why the statuses of its days do not allow an edit, as a refusal
abbrev pub refusal_for_objection : Objection → Refusal
refusal_for_objection (objections.NotInReview day) = NotInReview day
refusal_for_objection (objections.SamePerson day) = SamePerson day
refusal_for_objection (objections.NotApproved day) = NotApproved day
refusal_for_objection (objections.AlreadyApproved day) = AlreadyApproved day

-- what of the station stands in the way, where there is one
abbrev pub obstacle_of : Option StationState → What → Option Obstacle
obstacle_of None what = None
obstacle_of (Some s) what = obstacle s what

-- the refusal by a count that would pass its limit, or else by what stands in the way
abbrev pub refusal_by : Option Which → Option Refusal → Option Refusal
refusal_by None obstacle = obstacle
refusal_by (Some which) obstacle = Some (Limit which)

-- the refusal of an edit by the inputs in force
abbrev pub refusal_of : Limits → List StationState → Edit → Option Refusal
refusal_of limits stations edit =
    if not (adds_station edit.what) && not (is_kept stations edit.site) then Some NoStation
    else (if adds_station edit.what && is_kept stations edit.site then Some StationExists
    else refusal_by (passed_limit limits edit.site stations (stations_after stations edit)) (option_map refusal_for (obstacle_of (station_of stations edit.site) edit.what)))
