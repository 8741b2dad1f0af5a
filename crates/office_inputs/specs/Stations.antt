-- The inputs in force: the state of each station that is kept, and what an edit makes of them.
use Rattle.std.specs.Prelude.{List, [], Option, Some, None, ℤ, fold}
use Rattle.fixed_units.specs.Quantities.{SiteNumber, site_place}
use Rattle.rising.specs.Lists as lists
use Rattle.day_inputs.specs.declared.day_inputs.DayInputs.{DayInputs}
use Rattle.day_inputs.specs.declared.day_inputs.DayInputs.TheVariants.{Empty}
use Rattle.edits.specs.declared.content.What.{What}
use Rattle.edits.specs.declared.content.What.TheVariants.{AddStation}
use Rattle.edits.specs.declared.content.Edit.{Edit}
use Rattle.station_inputs.specs.Stations.{StationState, new_station, station_after, station_day}

-- the number that a station stands at: that of its site
abbrev pub place_of : StationState → ℤ
place_of station = site_place station.site

-- the station of a site, where it is kept
abbrev pub station_of : List StationState → SiteNumber → Option StationState
station_of stations site = lists.at place_of (site_place site) stations

-- the stations with one that was found changed, and with that of a site changed, where it is kept
abbrev pub with_changed : (StationState → StationState) → Option StationState → List StationState → List StationState
with_changed change None stations = stations
with_changed change (Some station) stations = lists.put place_of (change station) stations

abbrev pub changed_at : SiteNumber → (StationState → StationState) → List StationState → List StationState
changed_at site change stations = with_changed change (station_of stations site) stations

-- the station that an edit of a site adds: every kind but one changes a station that is there
abbrev pub added : SiteNumber → What → Option StationState
added site (AddStation name zone gap stage_array discharge_array) = Some (new_station site name zone gap stage_array discharge_array)
added site _ = None

-- the stations after an edit of a site
abbrev pub with_added : SiteNumber → What → Option StationState → List StationState → List StationState
with_added site what None stations = changed_at site (station_after what) stations
with_added site what (Some station) stations = lists.put place_of station stations

abbrev pub after_what : SiteNumber → What → List StationState → List StationState
after_what site what stations = with_added site what (added site what) stations

abbrev pub stations_after : List StationState → Edit → List StationState
stations_after stations edit = after_what edit.site edit.what stations

-- the stations after a list of edits
abbrev pub stations_of : List Edit → List StationState
stations_of edits = fold stations_after [] edits

-- the inputs of a day of a site: none where it is not kept
abbrev pub day_of_station : Option StationState → ℤ → DayInputs
day_of_station None day = Empty
day_of_station (Some station) day = station_day station day

abbrev pub inputs_of_day : List StationState → SiteNumber → ℤ → DayInputs
inputs_of_day stations site day = day_of_station (station_of stations site) day
