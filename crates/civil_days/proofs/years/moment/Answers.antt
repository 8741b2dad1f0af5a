use Rattle.std.proofs.Common.{◌≡◌, ◌∙◌, ap, sym, refl, arith, ℤ, pos, ◌+ℤ◌, ◌-ℤ◌, ◌*ℤ◌, Some, FitsSigned, w32, w64, rules}
use Rattle.std.proofs.lemmas.Int.{to_z-of_z}
use Rattle.std.specs.Int.{w128}
use Rattle.jiff_core.proofs.SignedLemmas.{signed_arith}
use Rattle.jiff_core.specs.Timestamp.{nanos_of_seconds}
use Rattle.jiff_tz.specs.PosixRule.{clamp_to, first_nanosecond, last_nanosecond, nanos_per_day, rule_day}
use Rattle.jiff_tz.specs.declared.posix.Day.{Day}
use Rattle.civil_days.specs.Rule.{moment}
use Rattle.civil_days.proofs.years.moment.Goals as goal

-- the moment, where the year has the rule's day
of_day : (y : ℤ) (d : Day × ℤ) (day : ℤ) → Some day ≡ rule_day y d.0
    → moment y d ≡ clamp_to (first_nanosecond y) (last_nanosecond y) (day *ℤ nanos_per_day +ℤ nanos_of_seconds (d.1 -ℤ pos 0))
of_day y d day e = rw (← e) refl

no_less : (s : ℤ) → s ≡ s -ℤ pos 0
no_less s = omega (arith, signed_arith)

by_parts : (y : ℤ) (d : Day × ℤ) (day n first last at : ℤ) → Some day ≡ rule_day y d.0 → first ≡ first_nanosecond y → last ≡ last_nanosecond y
    → at ≡ day *ℤ nanos_per_day +ℤ nanos_of_seconds d.1 → n ≡ clamp_to first last at → n ≡ moment y d
by_parts y d day n first last at e f g h k =
    let same : clamp_to first last at ≡ clamp_to (first_nanosecond y) (last_nanosecond y) (day *ℤ nanos_per_day +ℤ nanos_of_seconds (d.1 -ℤ pos 0)) =
    rw (f, g, h) (ap (λ s. clamp_to (first_nanosecond y) (last_nanosecond y) (day *ℤ nanos_per_day +ℤ nanos_of_seconds s)) (no_less d.1)) in
    k ∙ same ∙ sym (of_day y d day e)

pub returns-clause-value : goal.returns-clause-value
returns-clause-value c =
    let year = c.args.year.number in
    let first_in = c.first_nanosecond.ensures.bound in
    let last_in = c.last_nanosecond-last.ensures.bound in
    let first_fits : FitsSigned w128 c.first_nanosecond.result = record { sfits = c.first_nanosecond.type_inv } in
    let last_fits : FitsSigned w128 c.last_nanosecond-last.result = record { sfits = c.last_nanosecond-last.type_inv } in
    let at_fits : FitsSigned w128 c.nanosecond.result = record { sfits = c.nanosecond.type_inv } in
    let wide : FitsSigned w128 c.clamp.result = record { sfits = c.clamp.type_inv } in
    let day_fits : FitsSigned w32 c.in-Some.day = search rules in
    let time_fits : FitsSigned w32 c.args.at.time = omega (arith, signed_arith, c.args.at.time_in) in
    let bound = rw (to_z-of_z w128 c.first_nanosecond.result first_fits, to_z-of_z w128 c.last_nanosecond-last.result last_fits) at c.clamp.ensures.bound in
    let narrow : FitsSigned w64 c.clamp.result = omega (arith, signed_arith) in
    let value = rw (to_z-of_z w128 c.first_nanosecond.result first_fits, to_z-of_z w128 c.last_nanosecond-last.result last_fits, to_z-of_z w128 c.nanosecond.result at_fits)
    at c.clamp.ensures.value in
    let at = rw (to_z-of_z w32 c.in-Some.day day_fits, to_z-of_z w32 c.args.at.time time_fits) at c.nanosecond.ensures in
    rw (to_z-of_z w128 c.clamp.result wide, to_z-of_z w64 c.clamp.result narrow)
    (by_parts year (c.args.at.date, c.args.at.time) c.in-Some.day c.clamp.result c.first_nanosecond.result c.last_nanosecond-last.result c.nanosecond.result
    c.in-Some.ensures c.first_nanosecond.ensures.value c.last_nanosecond-last.ensures.value at value)
