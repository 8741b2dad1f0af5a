use Rattle.std.proofs.Common.{◌≡◌, sym, ap, ◌∙◌, Some, w64, to_z, of_z, FitsSigned, arith, rules}
use Rattle.std.proofs.lemmas.Int.{to_z-of_z}
use Rattle.std.specs.Int.{int_min}
use Rattle.water_year.proofs.ExtremeLemmas.{least_first, least_push}
use Rattle.water_year.proofs.sums.lowered.Goals as goal

pub returns-in-Some : goal.returns-in-Some
returns-in-Some c = λ values is.
    let fits : FitsSigned w64 c.min.result = search rules in
    let old : FitsSigned w64 c.in-Some.lowest = search rules in
    let value = rw (to_z-of_z w64 c.in-Some.lowest old, to_z-of_z w64 c.args.value c.ranges.value) at c.min.ensures.value in
    let min : to_z w64 (of_z w64 c.min.result) ≡ int_min c.in-Some.lowest c.args.value = to_z-of_z w64 c.min.result fits ∙ value in
    ap Some min ∙ least_push values c.in-Some.lowest c.args.value (sym c.in-Some.is ∙ is)

pub returns-in-None : goal.returns-in-None
returns-in-None c = λ values is.
    ap Some (to_z-of_z w64 c.args.value c.ranges.value) ∙ least_first values c.args.value (sym c.in-None.is ∙ is)
