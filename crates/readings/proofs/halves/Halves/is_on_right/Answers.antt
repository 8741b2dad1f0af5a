-- The first reading of the right half tells.
use Rattle.std.specs.Prelude.{◌≡◌, option_map}
use Rattle.std.specs.Borrow.{Bor}
use Rattle.std.proofs.Common.{arith, ap, sym, ◌∙◌, w64, to_z, of_z}
use Rattle.std.proofs.lemmas.Int.{to_z-of_z}
use Rattle.fixed_units.specs.declared.readings.Reading.{Reading}
use Rattle.readings.proofs.HalvesLemmas.{left_earlier, right_later, told_le, told_gt}
use Rattle.readings.proofs.halves.Halves.is_on_right.Goals as goal

pub returns-in-Some-clause-right : goal.returns-in-Some-clause-right
returns-in-Some-clause-right c = λ e.
    let xs = c.args.self.now.left.now in
    let ys = c.args.self.now.right.now in
    let r = c.in-Some.reading.now in
    let x = to_z w64 (of_z w64 c.get.result) in
    let y = to_z w64 (of_z w64 c.get-in-Some.result) in
    let first : x ≡ r.at = grind (arith, to_z-of_z) in
    let at : y ≡ c.args.at = grind (arith, to_z-of_z) in
    let begins = sym c.first.ensures.value ∙ ap (option_map (λ (b : Bor Reading). b.now)) c.in-Some.is in
    left_earlier c.args.at xs ys r c.requires begins (told_le x y r.at c.args.at first at e)

pub returns-in-Some-clause-left : goal.returns-in-Some-clause-left
returns-in-Some-clause-left c = λ e.
    let xs = c.args.self.now.left.now in
    let ys = c.args.self.now.right.now in
    let r = c.in-Some.reading.now in
    let x = to_z w64 (of_z w64 c.get.result) in
    let y = to_z w64 (of_z w64 c.get-in-Some.result) in
    let first : x ≡ r.at = grind (arith, to_z-of_z) in
    let at : y ≡ c.args.at = grind (arith, to_z-of_z) in
    let begins = sym c.first.ensures.value ∙ ap (option_map (λ (b : Bor Reading). b.now)) c.in-Some.is in
    right_later c.args.at xs ys r c.requires begins (told_gt x y r.at c.args.at first at e)
