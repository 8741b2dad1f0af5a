-- One day more stands behind the others.
use Rattle.std.specs.Prelude.{◌≡◌, ◌≤ℤ◌, ℤ, pos, ◌+ℤ◌}
use Rattle.std.proofs.Common.{arith, to_z, of_z, w32, ap, ◌∙◌}
use Rattle.std.proofs.lemmas.Int.{ints}
use Rattle.approval.specs.Kept.{span_length}
use Rattle.approval.proofs.SpanLemmas.{all_pushed, counted_on, pushed_more}
use Rattle.approval.proofs.spans.push_span.Goals as goal

pub loop-number-preserved : goal.loop-number-preserved
loop-number-preserved c =
    let number : ℤ = to_z w32 c.loop-number.number-bits in
    let first = c.get-number.ensures.range.low in
    let last = c.get-number-end.ensures.range.high in
    let low = c.loop-number.invariant.low in
    let within : number ≤ℤ c.args.to = omega (arith, ints, c.loop-number-test.true) in
    let next : to_z w32 (of_z w32 (number +ℤ pos 1)) ≡ number +ℤ pos 1 = omega (arith, ints) in
    record {
      low = omega (arith, ints);
      high = omega (arith, ints);
      items =
          pushed_more c.loop-number.list.items c.push_reserved.new.self.items _ number _ c.args.to c.args.status.now c.args.edit within next
          (rw (c.day_of.ensures, c.copy.ensures) at c.push_reserved.ensures.items) c.loop-number.invariant.items;
      len =
          (let n = counted_on number c.args.to within in
          let m = ap (λ (k : ℤ). span_length k c.args.to) next in
          omega (arith, n, m, c.push_reserved.ensures.len, c.loop-number.invariant.len));
      capacity = c.push_reserved.ensures.capacity ∙ c.loop-number.invariant.capacity;
    }

pub returns-clause-items : goal.returns-clause-items
returns-clause-items c =
    let number : ℤ = to_z w32 c.loop-number.number-bits in
    let first = c.get-number.ensures.range.low in
    let last = c.get-number-end.ensures.range.high in
    let high = c.loop-number.invariant.high in
    all_pushed c.loop-number.list.items _ number c.args.to c.args.status.now c.args.edit (omega (arith, ints, c.loop-number-test.false)) high c.loop-number.invariant.items
