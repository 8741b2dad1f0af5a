use Rattle.std.proofs.Common.{◌≡◌, refl, ℤ, pos, ◌+ℤ◌, ◌-ℤ◌, ◌≤ℤ◌, ◌<ℤ◌, arith, FitsSigned, to_z, of_z, w32}
use Rattle.std.proofs.lemmas.Int.{to_z-of_z}
use Rattle.jiff_core.proofs.SignedLemmas.{signed_arith}
use Rattle.jiff_core.specs.Timestamp.{IsOffsetSeconds}
use Rattle.jiff_tz.specs.PosixText.{tz_view}
use Rattle.civil_days.proofs.RunLemmas.{no_truth}
use Rattle.civil_days.proofs.StretchLemmas.{next_bits, next_low, past_next, all_last, last_lasts}
use Rattle.civil_days.specs.Seasons.{IsStretch}
use Rattle.fixed_units.specs.Calendar.{longest_day, shortest_day}
use Rattle.civil_days.specs.Starts.{calendar_end}
use Rattle.civil_days.proofs.lengths.lasts_well.Goals as goal
use Rattle.civil_days.proofs.lengths.lasts_well.Goals.{then-length-lt-SHORTEST_DAY-via-then-length-lt-SHORTEST_DAY, then-length-lt-SHORTEST_DAY-via-else-length-lt-SHORTEST_DAY+then-length-gt-LONGEST_DAY}

-- the length of a stretch's last day, without its bits
length_bits : (a b : ℤ) → IsOffsetSeconds a → IsOffsetSeconds b
    → to_z w32 (of_z w32 (to_z w32 (of_z w32 (pos 86400 +ℤ to_z w32 (of_z w32 a))) -ℤ to_z w32 (of_z w32 b))) ≡ pos 86_400 +ℤ a -ℤ b
length_bits a b p q =
    let a_fits : FitsSigned w32 a = omega (arith, signed_arith) in
    let b_fits : FitsSigned w32 b = omega (arith, signed_arith) in
    let sum_fits : FitsSigned w32 (pos 86_400 +ℤ a) = omega (arith, signed_arith) in
    let all_fits : FitsSigned w32 (pos 86_400 +ℤ a -ℤ b) = omega (arith, signed_arith) in
    rw (to_z-of_z w32 a a_fits, to_z-of_z w32 b b_fits, to_z-of_z w32 (pos 86_400 +ℤ a) sum_fits) (to_z-of_z w32 (pos 86_400 +ℤ a -ℤ b) all_fits)

pub loop-stretch-preserved : goal.loop-stretch-preserved
loop-stretch-preserved c =
    let s = c.loop-stretch.stretch in
    let n = c.stretch_from-next.result in
    let rule = tz_view c.args.rule.now in
    let is : IsStretch rule s = c.loop-stretch.invariant.stretch in
    let next : IsStretch rule n = c.stretch_from-next.ensures.stretch in
    let low = c.loop-stretch.invariant.low in
    let first : n.first ≡ s.next = rw (next_bits rule s is low) at c.stretch_from-next.ensures.first in
    let bits = length_bits s.offset n.offset is.offset_in next.offset_in in
    let short : pos shortest_day ≤ℤ (pos 86_400 +ℤ s.offset -ℤ n.offset) = omega (arith, signed_arith, rw bits at c.if-length-lt-SHORTEST_DAY.false) in
    let long : (pos 86_400 +ℤ s.offset -ℤ n.offset) ≤ℤ pos longest_day = omega (arith, signed_arith, rw bits at c.if-length-gt-LONGEST_DAY.false) in
    record {
      low = next_low rule s n.first is low first;
      stretch = next;
      past = past_next rule s n is next first c.loop-stretch.invariant.past short long;
    }

pub returns-then-length-lt-SHORTEST_DAY : goal.returns-then-length-lt-SHORTEST_DAY
returns-then-length-lt-SHORTEST_DAY c =
    let s = c.loop-stretch.stretch in
    let n = c.stretch_from-next.result in
    let rule = tz_view c.args.rule.now in
    let is : IsStretch rule s = c.loop-stretch.invariant.stretch in
    let next : IsStretch rule n = c.stretch_from-next.ensures.stretch in
    let low = c.loop-stretch.invariant.low in
    let back = next_bits rule s is low in
    let first : n.first ≡ s.next = rw back at c.stretch_from-next.ensures.first in
    let high : s.next ≤ℤ calendar_end = omega (arith, signed_arith, rw back at c.loop-stretch-test.true) in
    let bits = length_bits s.offset n.offset is.offset_in next.offset_in in (
      λ t. no_truth rule t,
      λ all.
          let lasts = last_lasts rule s n is next first low high all in
          let short = lasts.0 in
          let long = lasts.1 in
          elim c.then-length-lt-SHORTEST_DAY.branch [
            | then-length-lt-SHORTEST_DAY-via-then-length-lt-SHORTEST_DAY w ↦ absurd (omega (arith, signed_arith, rw bits at w.if-length-lt-SHORTEST_DAY.true))
            | then-length-lt-SHORTEST_DAY-via-else-length-lt-SHORTEST_DAY+then-length-gt-LONGEST_DAY w ↦
                absurd (omega (arith, signed_arith, rw bits at w.if-length-gt-LONGEST_DAY.true))
          ],
    )

pub returns : goal.returns
returns c =
    let s = c.loop-stretch.stretch in
    let rule = tz_view c.args.rule.now in
    let is : IsStretch rule s = c.loop-stretch.invariant.stretch in
    let low = c.loop-stretch.invariant.low in
    let end : calendar_end <ℤ s.next = omega (arith, signed_arith, rw (next_bits rule s is low) at c.loop-stretch-test.false) in
    (λ _. all_last rule s is c.loop-stretch.invariant.past end, λ _. refl)
