-- The station is written over with the same state and more room.
use Rattle.std.proofs.Common.{arith, ap, sym, ◌∙◌}
use Rattle.std.proofs.lemmas.Result.{IfOk-weaker}
use Rattle.fixed_units.specs.Quantities.{site_place}
use Rattle.station_inputs.specs.Room.{HasStationRoom}
use Rattle.station_inputs.specs.Stations.{StationState}
use Rattle.station_inputs.specs.declared.staged.Staged.TheVariants.{Nothing}
use Rattle.office_inputs.proofs.ApplyLemmas.{stations_set}
use Rattle.office_inputs.proofs.PlaceLemmas.{index_within, no_room_asked, stands}
use Rattle.office_inputs.proofs.RoomLemmas.{states_same, room_there, written_found}
use Rattle.office_inputs.proofs.rooms.prepare_in.Goals as goal

pub index_mut-requires : goal.index_mut-requires
index_mut-requires c = omega (arith, index_within c.args.stations.now.items c.args.place c.in-Some.index c.requires.place (sym c.index.ensures ∙ c.in-Some.is), c.args.stations.now.ok.0)

pub returns-in-Some-clause-states : goal.returns-in-Some-clause-states
returns-in-Some-clause-states c =
    let h = stands c.args.stations.now.items c.args.place c.in-Some.index c.requires.stations.rising c.requires.place (sym c.index.ensures ∙ c.in-Some.is) in
    states_same c.args.stations.now.items c.in-Some.index c.index_mut.result.now c.prepare.new.self h.within c.index_mut.ensures.value c.prepare.ensures.station

pub returns-in-Some-clause-kept : goal.returns-in-Some-clause-kept
returns-in-Some-clause-kept c =
    let h = stands c.args.stations.now.items c.args.place c.in-Some.index c.requires.stations.rising c.requires.place (sym c.index.ensures ∙ c.in-Some.is) in
    stations_set c.args.stations.now.items c.args.place.site c.in-Some.index c.index_mut.result.now c.prepare.new.self c.requires.stations h c.index_mut.ensures.value
    (ap (λ (s : StationState). site_place s.site) c.prepare.ensures.station) c.prepare.ensures.kept

pub returns-in-Some-clause-room : goal.returns-in-Some-clause-room
returns-in-Some-clause-room c =
    let h = stands c.args.stations.now.items c.args.place c.in-Some.index c.requires.stations.rising c.requires.place (sym c.index.ensures ∙ c.in-Some.is) in
    let found = written_found c.args.stations.now.items c.args.place.site c.in-Some.index c.index_mut.result.now c.prepare.new.self h c.index_mut.ensures.value
    (ap (λ (s : StationState). site_place s.site) c.prepare.ensures.station) in
    IfOk-weaker c.prepare.result (λ staged. HasStationRoom c.prepare.new.self staged c.args.what.now) _
    (λ staged room. room_there (λ k. HasStationRoom k staged c.args.what.now) _ c.args.place.site c.prepare.new.self found room)
    c.prepare.ensures.room

pub returns-in-None-clause-room : goal.returns-in-None-clause-room
returns-in-None-clause-room c =
    no_room_asked (λ k. HasStationRoom k Nothing c.args.what.now) c.args.stations.now.items c.args.place c.requires.place (sym c.index.ensures ∙ c.in-None.is)
