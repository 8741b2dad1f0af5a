-- The station is written over as the edit makes it.
use Rattle.std.proofs.Common.{arith, sym, ◌∙◌}
use Rattle.office_inputs.specs.Kept.{states_of}
use Rattle.station_inputs.specs.Room.{HasStationRoom}
use Rattle.station_inputs.specs.Stations.{station_after}
use Rattle.office_inputs.proofs.ApplyLemmas.{count_set, count_within, free_here, states_none, states_set, stations_set}
use Rattle.office_inputs.proofs.KeepLemmas.{place_after, same_place}
use Rattle.office_inputs.proofs.PlaceLemmas.{index_within, none_stands, stands}
use Rattle.office_inputs.proofs.RoomLemmas.{room_here}
use Rattle.office_inputs.proofs.applying.change_in.Goals as goal

pub index_mut-station-requires : goal.index_mut-station-requires
index_mut-station-requires c = omega (arith, index_within c.args.stations.now.items c.args.place c.in-Some.index c.requires.place (sym c.index.ensures ∙ c.in-Some.is), c.args.stations.now.ok.0)

pub apply-requires-clause-free : goal.apply-requires-clause-free
apply-requires-clause-free c =
    let h = stands c.args.stations.now.items c.args.place c.in-Some.index c.requires.kept.rising c.requires.place (sym c.index.ensures ∙ c.in-Some.is) in
    free_here c.args.stations.now.items c.args.place.site c.in-Some.index c.index_mut-station.result.now c.args.what.now h c.index_mut-station.ensures.value c.requires.free

pub apply-requires-clause-room : goal.apply-requires-clause-room
apply-requires-clause-room c =
    let h = stands c.args.stations.now.items c.args.place c.in-Some.index c.requires.kept.rising c.requires.place (sym c.index.ensures ∙ c.in-Some.is) in
    room_here (λ k. HasStationRoom k c.args.staged c.args.what.now) c.args.stations.now.items c.args.place.site c.in-Some.index c.index_mut-station.result.now h
    c.index_mut-station.ensures.value c.requires.room

pub returns-in-Some-clause-states : goal.returns-in-Some-clause-states
returns-in-Some-clause-states c =
    let h = stands c.args.stations.now.items c.args.place c.in-Some.index c.requires.kept.rising c.requires.place (sym c.index.ensures ∙ c.in-Some.is) in
    states_set c.args.stations.now.items c.args.place.site c.in-Some.index c.index_mut-station.result.now c.apply.new.self (station_after c.args.what.now) h
    c.index_mut-station.ensures.value c.apply.ensures.station (same_place c.args.what.now c.index_mut-station.result.now.station)

pub returns-in-Some-clause-count : goal.returns-in-Some-clause-count
returns-in-Some-clause-count c =
    let h = stands c.args.stations.now.items c.args.place c.in-Some.index c.requires.kept.rising c.requires.place (sym c.index.ensures ∙ c.in-Some.is) in
    let k = count_set c.args.stations.now.items c.in-Some.index c.index_mut-station.result.now c.apply.new.self h.within c.index_mut-station.ensures.value in
    let before = c.count-before.ensures in
    let after = c.count.ensures in
    omega (arith, k, before, after)

pub returns-in-Some-clause-within : goal.returns-in-Some-clause-within
returns-in-Some-clause-within c =
    let h = stands c.args.stations.now.items c.args.place c.in-Some.index c.requires.kept.rising c.requires.place (sym c.index.ensures ∙ c.in-Some.is) in
    let k = count_within c.args.stations.now.items c.in-Some.index c.index_mut-station.result.now h.within c.index_mut-station.ensures.value in
    let before = c.count-before.ensures in
    omega (arith, k, before)

pub returns-in-Some-clause-kept : goal.returns-in-Some-clause-kept
returns-in-Some-clause-kept c =
    let h = stands c.args.stations.now.items c.args.place c.in-Some.index c.requires.kept.rising c.requires.place (sym c.index.ensures ∙ c.in-Some.is) in
    stations_set c.args.stations.now.items c.args.place.site c.in-Some.index c.index_mut-station.result.now c.apply.new.self c.requires.kept h c.index_mut-station.ensures.value
    (place_after c.args.what.now c.index_mut-station.result.now.station c.apply.new.self.station c.apply.ensures.station) c.apply.ensures.kept

pub returns-in-None-clause-states : goal.returns-in-None-clause-states
returns-in-None-clause-states c =
    states_none (states_of c.args.stations.now.items) c.args.place.site (station_after c.args.what.now)
    (none_stands c.args.stations.now.items c.args.place c.requires.place (sym c.index.ensures ∙ c.in-None.is))
