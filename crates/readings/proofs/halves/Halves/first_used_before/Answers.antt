use Rattle.std.specs.Prelude.{None, Some, ℤ, find}
use Rattle.std.proofs.Common.{refl, ap, ◌∙◌, w64}
use Rattle.std.proofs.lemmas.Int.{to_z-of_z}
use Rattle.readings.specs.Readings.{before_instant, is_used}
use Rattle.readings.proofs.HalvesLemmas.{right_rises, first_found_before}
use Rattle.readings.proofs.halves.Halves.first_used_before.Goals as goal

pub first_used_before-requires-in_default : goal.first_used_before-requires-in_default
first_used_before-requires-in_default c = right_rises c.args.self.now.left.now c.args.self.now.right.now c.requires

pub returns-in_default : goal.returns-in_default
returns-in_default c =
    let xs = c.args.self.now.left.now in
    let ys = c.args.self.now.right.now in
    let number = to_z-of_z w64 c.args.number c.ranges.number in
    first_found_before c.args.number xs ys None c.first_used_before-in_default.result
    (c.in_default.ensures ∙ ap (λ (n : ℤ). find is_used (before_instant n xs)) number)
    (c.first_used_before-in_default.ensures ∙ ap (λ (n : ℤ). find is_used (before_instant n ys)) number)

pub returns : goal.returns
returns c =
    let xs = c.args.self.now.left.now in
    let ys = c.args.self.now.right.now in
    let number = to_z-of_z w64 c.args.number c.ranges.number in
    first_found_before c.args.number xs ys (Some c.in-Some.reading) _
    (c.in-Some.ensures ∙ ap (λ (n : ℤ). find is_used (before_instant n xs)) number) refl
