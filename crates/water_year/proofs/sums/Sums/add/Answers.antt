use Rattle.std.proofs.Common.{refl, ap, ◌∙◌, w64, FitsSigned, rules}
use Rattle.std.proofs.lemmas.Int.{to_z-of_z}
use Rattle.water_year.specs.declared.sums.Sums.{Sums}
use Rattle.water_year.specs.Rows.{values_of}
use Rattle.water_year.proofs.SumLemmas.{sums_with, sums_without}
use Rattle.water_year.proofs.sums.Sums.add.Goals as goal

pub returns-in-Value : goal.returns-in-Value
returns-in-Value c = λ rows is.
    let fits : FitsSigned w64 c.millionths.result = search rules in
    let more = c.add_value.ensures (values_of rows) (ap (λ (s : Sums). s.total) is) (ap (λ (s : Sums). s.most) is) (ap (λ (s : Sums). s.least) is) in
    let told = rw (to_z-of_z w64 c.millionths.result fits, c.millionths.ensures.value) at more in
    told ∙ rw (sums_with rows c.args.row.now c.in-Value.value c.in-Value.is, is) refl

pub returns-in-Absent : goal.returns-in-Absent
returns-in-Absent c = λ rows is. rw (sums_without rows c.args.row.now c.in-Absent.is, is) refl
