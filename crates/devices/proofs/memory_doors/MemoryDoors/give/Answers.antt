use Rattle.std.proofs.Common.{◌≡◌, ◌++◌, ◌∷◌, [], None, ap, refl, rules}
use Rattle.devices.specs.declared.memory_doors.MemoryPlace.{MemoryPlace}
use Rattle.devices.specs.MemoryDoors.{all_told, given_at, taken_back_at}
use Rattle.devices.proofs.Connections.{is_given}
use Rattle.devices.proofs.memory_doors.MemoryDoors.give.Goals as goal

pub returns-clause-given : goal.returns-clause-given
returns-clause-given c =
    let first : c.args.self.now.waiting.items ≡ c.in_ok-ends.ends ∷ c.pop_front.new.self.items = search rules in
    let place : MemoryPlace = record { given = c.of.result; back = None } in
    let more : c.push_reserved.new.self.items ≡ c.args.self.now.places.items ++ place ∷ [] = search rules in
    (first, is_given given_at taken_back_at c.args.self.now.places.items c.push_reserved.new.self.items place (all_told c.in_ok-ends.ends) more (ap all_told c.of.ensures) refl)
