-- The parts are tested first, then the zone.
use Rattle.std.proofs.Common.{refl}
use Rattle.edits.specs.Lawful.{AreSettings, IsStationZone}
use Rattle.edits.proofs.TestLemmas.{told_as_well}
use Rattle.edits.proofs.making.is_added_station.Goals as goal

pub returns-clause-told : goal.returns-clause-told
returns-clause-told c =
    let a = c.args in
    let settings : AreSettings a.name.now a.gap a.stage_array a.discharge_array = c.if-not-is_set_station.ensures.0 refl in
    told_as_well (IsStationZone a.zone.now) (AreSettings a.name.now a.gap a.stage_array a.discharge_array × IsStationZone a.zone.now) c.is_zone.result
    (λ zone. (settings, zone)) (λ lawful. lawful.1) (rw (← c.as_slice.ensures.text) c.is_zone.ensures.told)
