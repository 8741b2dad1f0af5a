-- The stations that are kept rise by their sites, which are in range.
use Rattle.std.specs.Prelude.{◌≡◌, List, All}
use Rattle.std.proofs.Common.{subst}
use Rattle.std.proofs.lemmas.List.Elements.{All-map, All-weaker}
use Rattle.fixed_units.specs.Quantities.{IsSite}
use Rattle.office_inputs.specs.Kept.{AreStations, states_of}
use Rattle.station_inputs.specs.KeptStation.{KeptStation, IsStation}
use Rattle.office_inputs.specs.Stations.{place_of}
use Rattle.station_inputs.specs.Stations.{StationState}
use Rattle.office_inputs.proofs.ApplyLemmas.{states_rise}
use Rattle.rising.specs.Lists.{IsRising}

pub rising_stations : (kept : List KeptStation) (stations : List StationState) → AreStations kept → states_of kept ≡ stations → IsRising place_of stations
rising_stations kept stations h e = subst (IsRising place_of) e (states_rise kept h.rising)

pub sites_in_range : (kept : List KeptStation) (stations : List StationState) → AreStations kept → states_of kept ≡ stations
    → All (λ (s : StationState). IsSite s.site) stations
sites_in_range kept stations h e =
    subst (All (λ (s : StationState). IsSite s.site)) e
    (All-map (λ (s : StationState). IsSite s.site) (λ (k : KeptStation). k.station) kept
    (All-weaker (λ (k : KeptStation). IsStation k.station) (λ (k : KeptStation). IsSite k.station.site) (λ k i. i.site_range) kept h.each))
