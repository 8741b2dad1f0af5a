-- Where the station of a site stands among those in force.
use Rattle.std.specs.Prelude.{◌≡◌, ℕ, ◌<◌, List, length, slice_get, Option, Some, None, IfSome}
use Rattle.fixed_units.specs.Quantities.{SiteNumber}
use Rattle.office_inputs.specs.Stations.{station_of}
use Rattle.station_inputs.specs.Stations.{StationState}

-- where the station of a site stands: its index, or none where it is not kept
pub record Placed : Type 0 where
  pub site : SiteNumber
  pub index : Option ℕ

-- the station that stands at an index, or none without one
abbrev pub station_in : List StationState → Option ℕ → Option StationState
station_in stations None = None
station_in stations (Some index) = slice_get stations index

-- the station of the place's site stands there, or is not kept and stands nowhere
pub record IsPlace (stations : List StationState) (place : Placed) : Type 0 where
  pub within : IfSome place.index (λ index. index < length stations)
  pub found : station_of stations place.site ≡ station_in stations place.index

-- the place is that of the station of a site
abbrev pub IsPlaceOf : List StationState → SiteNumber → Placed → Type 0
IsPlaceOf stations site place = (place.site ≡ site) × IsPlace stations place
