-- A step counts the reading at the index where it is used.
use Rattle.std.specs.Prelude.{filter}
use Rattle.std.specs.Int.{from_bool}
use Rattle.std.proofs.Common.{◌≡◌, ◌∙◌, ◌≤◌, refl, ap, Bool, true, false, cond, length, arith}
use Rattle.std.proofs.lemmas.List.{take_all}
use Rattle.std.proofs.lemmas.List.Filters.{length-filter_more}
use Rattle.readings.specs.Readings.{is_used}
use Rattle.readings.proofs.used.count_used.Goals as goal

counts : (b : Bool) → from_bool b ≡ cond b 1 0
counts true = refl
counts false = refl

at_most_one : (b : Bool) → from_bool b ≤ 1
at_most_one true = omega arith
at_most_one false = omega arith

pub loop-reading-init : goal.loop-reading-init
loop-reading-init c = record { counted = refl; few = omega arith }

pub overflow_add-count : goal.overflow_add-count
overflow_add-count c =
    let one = at_most_one c.is_usable.result in
    omega (arith, one, c.from-count.ensures, c.loop-reading.invariant.few, c.loop-reading-test.true)

pub loop-reading-preserved : goal.loop-reading-preserved
loop-reading-preserved c =
    let list = c.args.list.now in
    let i = c.loop-reading.reading-index in
    let one = at_most_one c.is_usable.result in
    let more = length-filter_more is_used list i c.reading-item.result c.loop-reading-test.true in
    let step = c.from-count.ensures ∙ counts c.is_usable.result ∙ ap (λ b. cond b 1 0) (c.is_usable.ensures ∙ ap is_used c.reading-item.is) in
    record {
      counted = omega (arith, more, step, c.loop-reading.invariant.counted);
      few = omega (arith, one, c.from-count.ensures, c.loop-reading.invariant.few);
    }

pub returns : goal.returns
returns c =
    let whole = take_all c.loop-reading.reading-index c.args.list.now c.loop-reading-test.false in
    c.loop-reading.invariant.counted ∙ ap (λ l. length (filter is_used l)) whole
