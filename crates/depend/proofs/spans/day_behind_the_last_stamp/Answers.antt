-- It is one later than the day of the last stamp.
use Rattle.std.specs.Prelude.{◌≡◌, ℤ, pos, ◌+ℤ◌}
use Rattle.std.proofs.Common.{arith, to_z, of_z, w32, subst}
use Rattle.std.proofs.lemmas.Int.{ints}
use Rattle.civil_days.specs.Starts.{IsIn}
use Rattle.depend.proofs.CoverLemmas.{after_from}
use Rattle.depend.proofs.spans.day_behind_the_last_stamp.Goals as goal

pub returns : goal.returns
returns c =
    let low = c.get.ensures.range.low in
    let high = c.get.ensures.range.high in
    let number : ℤ = to_z w32 (of_z w32 (to_z w32 (of_z w32 c.get.result) +ℤ pos 1)) in
    let e : number ≡ c.day_of.result +ℤ pos 1 = (let v = c.get.ensures.value in omega (arith, ints)) in (
      c.day_of.result,
      subst (λ (at : ℤ). IsIn c.args.zone.now c.day_of.result at) c.of_seconds.ensures c.day_of.ensures.holds,
      after_from c.day_of.result number c.clipped.result c.get.ensures.range e
          (record { range = c.clipped.ensures.range; inside = c.clipped.ensures.inside; before = c.clipped.ensures.before; behind = c.clipped.ensures.behind }),
    )
