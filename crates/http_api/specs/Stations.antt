-- The body for a station: compact JSON, members in rising order of their names.
use Rattle.std.specs.Prelude.{ℕ, List, ◌++◌, codes, decimal}
use Rattle.site_texts.specs.SiteText.{site_text}
use Rattle.json.specs.Print.{quoted}
use Rattle.station_inputs.specs.Stations.{StationState}

-- the array of discharges and the gap
abbrev pub gap_members : StationState → List ℕ
gap_members station = codes "{\"discharge_array\":\"" ++ station.discharge_array ++ codes "\",\"gap\":" ++ decimal station.gap

-- the name and the site
abbrev pub name_members : StationState → List ℕ
name_members station = codes ",\"name\":" ++ quoted station.name ++ codes ",\"site\":\"" ++ site_text station.site

-- the array of stages and the zone in its given text
abbrev pub zone_members : StationState → List ℕ
zone_members station =
    codes "\",\"stage_array\":\"" ++ station.stage_array ++ codes "\",\"zone\":" ++ quoted station.zone ++ codes "}"

-- the body for a station
abbrev pub station_text : StationState → List ℕ
station_text station = gap_members station ++ name_members station ++ zone_members station
