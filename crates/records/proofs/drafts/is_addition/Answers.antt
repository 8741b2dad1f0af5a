-- The parts are tested first, then the zone.
use Rattle.std.proofs.Common.{refl}
use Rattle.edits.specs.Lawful.{AreSettings, IsStationZone}
use Rattle.edits.proofs.TestLemmas.{told_as_well}
use Rattle.records.proofs.drafts.is_addition.Goals as goal

pub returns-clause-told : goal.returns-clause-told
returns-clause-told c =
    let a = c.args in
    let settings : AreSettings a.name.now a.gap a.stage_array.now a.discharge_array.now = c.if-not-are_settings.ensures.0 refl in
    told_as_well (IsStationZone a.zone.now) (AreSettings a.name.now a.gap a.stage_array.now a.discharge_array.now × IsStationZone a.zone.now) c.is_zone.result
    (λ zone. (settings, zone)) (λ lawful. lawful.1) c.is_zone.ensures.told
