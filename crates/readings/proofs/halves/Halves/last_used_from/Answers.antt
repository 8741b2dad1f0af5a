use Rattle.std.specs.Prelude.{None, Some, ℤ, find, reverse}
use Rattle.std.proofs.Common.{refl, ap, ◌∙◌, w64}
use Rattle.std.proofs.lemmas.Int.{to_z-of_z}
use Rattle.readings.specs.Readings.{from_instant, is_used}
use Rattle.readings.proofs.HalvesLemmas.{left_rises, right_rises, last_found_from}
use Rattle.readings.proofs.halves.Halves.last_used_from.Goals as goal

pub last_used_from-requires : goal.last_used_from-requires
last_used_from-requires c = right_rises c.args.self.now.left.now c.args.self.now.right.now c.requires

pub last_used_from-requires-in_default : goal.last_used_from-requires-in_default
last_used_from-requires-in_default c = left_rises c.args.self.now.left.now c.args.self.now.right.now c.requires

pub returns-in_default : goal.returns-in_default
returns-in_default c =
    let xs = c.args.self.now.left.now in
    let ys = c.args.self.now.right.now in
    let number = to_z-of_z w64 c.args.number c.ranges.number in
    last_found_from c.args.number xs ys None c.last_used_from-in_default.result
    (c.in_default.ensures ∙ ap (λ (n : ℤ). find is_used (reverse (from_instant n ys))) number)
    (c.last_used_from-in_default.ensures ∙ ap (λ (n : ℤ). find is_used (reverse (from_instant n xs))) number)

pub returns : goal.returns
returns c =
    let xs = c.args.self.now.left.now in
    let ys = c.args.self.now.right.now in
    let number = to_z-of_z w64 c.args.number c.ranges.number in
    last_found_from c.args.number xs ys (Some c.in-Some.reading) _
    (c.in-Some.ensures ∙ ap (λ (n : ℤ). find is_used (reverse (from_instant n ys))) number) refl
