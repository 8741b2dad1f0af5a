-- An addition puts the station that is staged, and every other kind changes the one at the place.
use Rattle.std.specs.Prelude.{◌≡◌, false, None, List}
use Rattle.std.proofs.Common.{ap, sym, subst, ◌∙◌}
use Rattle.edits.specs.declared.content.What.{What}
use Rattle.fixed_units.specs.Quantities.{SiteNumber}
use Rattle.office_inputs.specs.Kept.{HasRoomFor, HasRoomThere, in_force, staged_part}
use Rattle.office_inputs.specs.Refusals.{adds_station, obstacle_of, reading_count}
use Rattle.office_inputs.specs.Stations.{added, after_what, changed_at, station_of}
use Rattle.station_inputs.specs.Counts.{passes}
use Rattle.station_inputs.specs.Stations.{StationState, new_station, station_after}
use Rattle.office_inputs.proofs.KeepLemmas.{added_none, adds_not, only_changed}
use Rattle.office_inputs.proofs.RefusalLemmas.{absent, accepted}
use Rattle.office_inputs.proofs.inputs.Inputs.apply_at.Goals as goal

pub add_staged-requires-clause-absent : goal.add_staged-requires-clause-absent
add_staged-requires-clause-absent c =
    absent c.args.self.now.limits c.args.self.now.kept c.args.edit.now c.requires.accepted (ap adds_station c.in-AddStation.is)

pub change-requires : goal.change-requires
change-requires c =
    let stations = in_force c.args.self.now in
    let site = c.args.edit.now.site in
    let what = c.args.edit.now.what in
    let own = sym c.requires.place.0 in
    let none = adds_not what c.in_default.not-AddStation in
    let a = accepted c.args.self.now.limits stations c.args.edit.now c.requires.accepted in
    record {
      place = c.requires.place.1;
      lawful = c.args.edit.now.lawful;
      free = subst (λ (x : SiteNumber). obstacle_of (station_of stations x) what ≡ None) own a.free;
      room =
          subst (λ (x : SiteNumber). HasRoomThere c.args.self.now.kept (staged_part c.args.self.now.staged) x what) own
          (subst (HasRoomFor c.args.self.now site what) (added_none site what none) c.requires.room);
      counted =
          subst (λ (x : SiteNumber). passes c.args.self.now.limits.readings (reading_count stations) (reading_count (changed_at x (station_after what) stations)) ≡ false) own
          (ap (λ (after : List StationState). passes c.args.self.now.limits.readings (reading_count stations) (reading_count after)) (sym (only_changed site what stations none))
          ∙ a.readings);
    }

pub returns-in-AddStation-clause-stations : goal.returns-in-AddStation-clause-stations
returns-in-AddStation-clause-stations c =
    let room = subst (λ (what : What). HasRoomFor c.args.self.now c.args.edit.now.site what (added c.args.edit.now.site what)) c.in-AddStation.is c.requires.room in
    c.add_staged.ensures.stations
    (new_station c.args.edit.now.site c.in-AddStation.name c.in-AddStation.zone c.in-AddStation.gap c.in-AddStation.stage_array c.in-AddStation.discharge_array) room.0
    ∙ ap (λ (what : What). after_what c.args.edit.now.site what (in_force c.args.self.now)) (sym c.in-AddStation.is)
