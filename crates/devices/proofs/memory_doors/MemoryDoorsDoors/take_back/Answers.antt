use Rattle.std.specs.Prelude.{◌-◌, Some}
use Rattle.std.proofs.Common.{arith, refl, ap, ◌∙◌}
use Rattle.std.proofs.lemmas.Option.{get_or_from_slice_get}
use Rattle.devices.specs.declared.memory_doors.MemoryPlace.{MemoryPlace}
use Rattle.devices.specs.MemoryDoors.{all_told, given_at, taken_back_at}
use Rattle.devices.proofs.Connections.{is_back}
use Rattle.devices.proofs.memory_doors.MemoryDoorsDoors.take_back.Goals as goal

pub returns-clause-back : goal.returns-clause-back
returns-clause-back c =
    let first = c.requires.first in
    let places = c.args.self.now.places.items in
    let filled : MemoryPlace = record { given = c.index_mut.result.now.given; back = Some c.args.back } in
    is_back given_at taken_back_at places c.args.number (c.args.number - 1) filled (all_told c.args.back) (omega (arith, first)) c.requires.given
    (λ p at.
    ap (λ (m : MemoryPlace). all_told m.given.value)
    (c.index_mut.ensures.value ∙ get_or_from_slice_get places (c.args.number - 1) p c.index_mut.result.now at))
    refl
