use Rattle.std.proofs.Common.{refl, sym, ap, ◌∙◌, ℤ, ◌+ℤ◌, w64}
use Rattle.std.proofs.lemmas.Int.{to_z-of_z}
use Rattle.water_year.proofs.SumLemmas.{sum_push, total_bits}
use Rattle.water_year.proofs.sums.Sums.add_value.Goals as goal

pub returns : goal.returns
returns c = λ values total most least.
    let sum = total_bits c.args.self.now.total c.args.value c.requires.total c.requires.value ∙ (ap (λ (n : ℤ). n +ℤ c.args.value) total ∙ sym (sum_push values c.args.value)) in
    let same = to_z-of_z w64 c.args.value c.ranges.value in
    let raised = rw same at c.raised-self.ensures values most in
    let lowered = rw same at c.lowered-self.ensures values least in
    rw (sum, raised, lowered) refl
