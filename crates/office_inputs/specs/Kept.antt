-- What is kept of all stations, as contracts see it: the states of those in force with their limits, and room beside them.
use Rattle.std.specs.Prelude.{◌≡◌, ℕ, ◌<◌, List, [], map, All, Option, Some, None, IfSome, ℤ}
use Rattle.fixed_units.specs.Quantities.{SiteNumber, site_place}
use Rattle.rising.specs.Lists as lists
use Rattle.edits.specs.declared.content.What.{What}
use Rattle.edits.specs.declared.content.Edit.{Edit}
use Rattle.office_inputs.specs.Stations.{added, place_of}
use Rattle.office_inputs.specs.declared.limits.Limits.{Limits}
use Rattle.office_inputs.specs.declared.staged.StagedEdit.{StagedEdit}
use Rattle.office_inputs.specs.declared.staged.StagedEdit.TheVariants.{Whole, Part}
use Rattle.station_inputs.specs.KeptStation.{KeptStation, IsStation}
use Rattle.station_inputs.specs.Room.{HasStationRoom}
use Rattle.station_inputs.specs.Stations.{StationState}
use Rattle.station_inputs.specs.declared.staged.Staged.{Staged}
use Rattle.station_inputs.specs.declared.staged.Staged.TheVariants.{Nothing}

-- the number that a kept station stands at
abbrev pub place_of_kept : KeptStation → ℤ
place_of_kept kept = place_of kept.station

-- the states of kept stations
abbrev pub states_of : List KeptStation → List StationState
states_of kept = map (λ k. k.station) kept

-- the inputs in force as they are kept: beside the stations their limits, for how many more stations there is room, and what is
-- made ready for an edit that carries more than numbers
pub record InForce : Type 0 where
  pub limits : Limits
  pub kept : List KeptStation
  pub spare : ℕ
  pub staged : StagedEdit

-- the stations in force
abbrev pub in_force : InForce → List StationState
in_force inputs = states_of inputs.kept

-- the station of a site with its room
abbrev pub kept_at : List KeptStation → SiteNumber → Option KeptStation
kept_at kept site = lists.at place_of_kept (site_place site) kept

-- the stations rise by site, and each keeps to its ranges
pub record AreStations (kept : List KeptStation) : Type 0 where
  pub rising : lists.IsRising place_of_kept kept
  pub each : All (λ k. IsStation k.station) kept

-- a staged station
abbrev pub IsStagedStation : StationState → StagedEdit → Type 0
IsStagedStation station (Whole kept) = kept.station ≡ station
IsStagedStation station (Part staged) = ⊥

-- a station is staged for a site, without readings
abbrev pub IsStagedNew : SiteNumber → StagedEdit → Type 0
IsStagedNew site (Whole kept) = (kept.station.site ≡ site) × (kept.station.readings ≡ [])
IsStagedNew site (Part staged) = ⊥

-- what is staged for an edit of a station that is there
abbrev pub staged_part : StagedEdit → Staged
staged_part (Whole kept) = Nothing
staged_part (Part staged) = staged

-- all is ready for an edit of the station of a site, where it is kept
abbrev pub HasRoomThere : List KeptStation → Staged → SiteNumber → What → Type 0
HasRoomThere kept staged site what = IfSome (kept_at kept site) (λ k. HasStationRoom k staged what)

-- room is made for an edit: the station that it adds is staged and there is room for it, or the station that it changes has room
abbrev pub HasRoomFor : InForce → SiteNumber → What → Option StationState → Type 0
HasRoomFor inputs site what (Some station) = IsStagedStation station inputs.staged × (0 < inputs.spare)
HasRoomFor inputs site what None = HasRoomThere inputs.kept (staged_part inputs.staged) site what

abbrev pub HasRoom : InForce → Edit → Type 0
HasRoom inputs edit = HasRoomFor inputs edit.site edit.what (added edit.site edit.what)
