use Rattle.std.proofs.Common.{◌≡◌, sym, ap, ◌∙◌, Some, w64, to_z, of_z, FitsSigned, arith, rules}
use Rattle.std.proofs.lemmas.Int.{to_z-of_z}
use Rattle.std.specs.Int.{int_max}
use Rattle.water_year.proofs.ExtremeLemmas.{greatest_first, greatest_push}
use Rattle.water_year.proofs.sums.raised.Goals as goal

pub returns-in-Some : goal.returns-in-Some
returns-in-Some c = λ values is.
    let fits : FitsSigned w64 c.max.result = search rules in
    let old : FitsSigned w64 c.in-Some.most = search rules in
    let value = rw (to_z-of_z w64 c.in-Some.most old, to_z-of_z w64 c.args.value c.ranges.value) at c.max.ensures.value in
    let max : to_z w64 (of_z w64 c.max.result) ≡ int_max c.in-Some.most c.args.value = to_z-of_z w64 c.max.result fits ∙ value in
    ap Some max ∙ greatest_push values c.in-Some.most c.args.value (sym c.in-Some.is ∙ is)

pub returns-in-None : goal.returns-in-None
returns-in-None c = λ values is.
    ap Some (to_z-of_z w64 c.args.value c.ranges.value) ∙ greatest_first values c.args.value (sym c.in-None.is ∙ is)
