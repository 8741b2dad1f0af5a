-- The stage is the raw one with its correction, and the rating is entered at the stage with its shift.
use Rattle.std.proofs.Common.{◌≡◌, refl, List, Result, ℤ, ◌+ℤ◌, arith, ap, ◌∙◌}
use Rattle.std.proofs.lemmas.Int.{ints}
use Rattle.fixed_units.specs.declared.readings.Reading.{Reading}
use Rattle.curves.specs.declared.entries.Entry.{Entry}
use Rattle.curves.specs.Corrections.{correction_by}
use Rattle.curves.specs.Entries.{series_value}
use Rattle.ratings.specs.Parts.{Part, part_at}
use Rattle.unit_discharge.specs.Unit as units
use Rattle.unit_discharge.specs.Unit.{corrected_stage}
use Rattle.unit_discharge.specs.declared.unit_values.Missing.{Missing}
use Rattle.unit_discharge.specs.declared.unit_values.Unit.{Unit}
use Rattle.unit_discharge.proofs.applying.unit.Goals as goal

made : (first second third shifts : List Entry) (parts : List Part) (r : Reading) (correction stage shift : ℤ) (q : Result ℤ Missing)
    → correction ≡ correction_by first second third r.at r.raw → stage ≡ corrected_stage first second third r
    → shift ≡ series_value shifts r.at stage → q ≡ units.discharge r.flag (part_at r.at parts) (stage +ℤ shift)
    → ◌≡◌ {A = Unit} (record { at = r.at; raw = r.raw; correction = correction; stage = stage; shift = shift; discharge = q })
    (units.unit first second third shifts parts r)
made first second third shifts parts r correction stage shift q e f g h = rw (h, g, f, e) refl

pub returns-clause-unit : goal.returns-clause-unit
returns-clause-unit c =
    let r = c.args.reading in
    let corrected = c.correction_of-correction.ensures in
    let range = c.amount_of-shift.ensures.range in
    let correction : c.of_millionths.result ≡ c.correction_of-correction.result =
    omega (arith, ints, c.of_millionths.ensures, corrected.low, corrected.high) in
    let stage : c.sum-stage.result ≡ r.raw +ℤ c.correction_of-correction.result =
    omega (arith, ints, c.sum-stage.ensures, corrected.low, corrected.high) in
    let shift : c.of_millionths-2.result ≡ c.amount_of-shift.result = omega (arith, ints, c.of_millionths-2.ensures, range.low, range.high) in
    let entered : c.sum.result ≡ c.sum-stage.result +ℤ c.of_millionths-2.result =
    omega (arith, ints, c.sum.ensures, c.of_millionths-2.ensures, range.low, range.high) in
    made c.args.first.now c.args.second.now c.args.third.now c.args.shifts.now c.args.periods.now r c.of_millionths.result c.sum-stage.result
    c.of_millionths-2.result c.discharge_of.result
    (correction ∙ corrected.value) (stage ∙ ap (λ n. r.raw +ℤ n) corrected.value) (shift ∙ c.amount_of-shift.ensures.value)
    (c.discharge_of.ensures.value ∙ ap (λ n. units.discharge r.flag (part_at r.at c.args.periods.now) n) entered)
