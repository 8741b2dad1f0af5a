use Rattle.std.proofs.Common.{◌≡◌, rules, arith}
use Rattle.std.proofs.lemmas.Map.Text.{text_keys}
use Rattle.devices.specs.Cabinets.{OthersStay}
use Rattle.devices.specs.MemoryCabinets.{places_of, place_with}
use Rattle.devices.proofs.Places.{opens_under}
use Rattle.devices.proofs.memory_cabinet.open_under.Goals as goal

pub returns-in-Some-clause-opened : goal.returns-in-Some-clause-opened
returns-in-Some-clause-opened c =
    let name = c.args.name.now in
    let before = places_of c.args.disks.now in
    let after = places_of (c.get_mut.follows.lender c.open_place.new.place) in
    let was : before name ≡ place_with c.in-Some.place.now = search rules in
    let is : after name ≡ place_with c.open_place.new.place = search rules in
    let others : OthersStay name before after = λ other ne. grind (arith, text_keys) in
    opens_under _ name c.args.make before after _ _ c.open_place.result was is c.open_place.ensures.opened others
