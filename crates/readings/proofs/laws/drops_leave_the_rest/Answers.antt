use Rattle.std.specs.Prelude.{not}
use Rattle.std.proofs.Common.{arith, refl}
use Rattle.std.proofs.lemmas.List.Filters.{length-filter_both}
use Rattle.readings.specs.Readings.{is_within}
use Rattle.readings.proofs.laws.drops_leave_the_rest.Goals as goal

pub returns : goal.returns
returns c from to rs =
    let all = length-filter_both (is_within from to) (λ r. not (is_within from to r)) (λ r. refl) rs in
    omega (arith, all)
