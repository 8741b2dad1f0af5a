use Rattle.std.proofs.Common.{◌≡◌, arith, int_le, false, ℤ, pos, ◌+ℤ◌, ◌-ℤ◌, ◌*ℤ◌, ◌≤ℤ◌, ◌<ℤ◌, FitsSigned, to_z, of_z, w32, w64}
use Rattle.std.specs.Int.{int_div_euclid}
use Rattle.std.proofs.lemmas.Int.{to_z-of_z}
use Rattle.jiff_core.proofs.SignedLemmas.{signed_arith}
use Rattle.fixed_units.specs.Quantities.{first_day}
use Rattle.civil_days.proofs.SeasonLemmas.{side_after, side_before, midnight_bits}
use Rattle.civil_days.specs.Starts.{calendar_end}
use Rattle.civil_days.specs.Years.{IsMovedNanos}
use Rattle.civil_days.proofs.stretches.next_at.Goals as goal

later_midnight : (day later : ℤ) → day ≤ℤ later → (day *ℤ pos 86_400_000_000_000) ≤ℤ (later *ℤ pos 86_400_000_000_000)
later_midnight day later h = omega (arith, signed_arith)

still_before : (last later change : ℤ) → later <ℤ (last +ℤ pos 1) → (last *ℤ pos 86_400_000_000_000) <ℤ change → (later *ℤ pos 86_400_000_000_000) <ℤ change
still_before last later change h k = omega (arith, signed_arith)

-- the last day whose midnight comes before a change
record IsLast (day change last : ℤ) : Type 0 where
  narrow : to_z w32 (of_z w32 (to_z w64 (of_z w64 last))) ≡ last
  next : to_z w32 (of_z w32 (last +ℤ pos 1)) ≡ last +ℤ pos 1
  fits : FitsSigned w32 (last +ℤ pos 1)
  after : day <ℤ (last +ℤ pos 1)
  before : (last *ℤ pos 86_400_000_000_000) <ℤ change

last_is : (day change last : ℤ) → first_day ≤ℤ day → day ≤ℤ calendar_end → IsMovedNanos change → (day *ℤ pos 86_400_000_000_000) <ℤ change
    → last ≡ int_div_euclid (change -ℤ pos 1) (pos 86_400_000_000_000) → IsLast day change last
last_is day change last low high near less e =
    let after : day <ℤ (last +ℤ pos 1) = omega (arith, signed_arith) in
    let before : (last *ℤ pos 86_400_000_000_000) <ℤ change = omega (arith, signed_arith) in
    let wide : FitsSigned w64 last = omega (arith, signed_arith) in
    let narrow : FitsSigned w32 last = omega (arith, signed_arith) in
    let fits : FitsSigned w32 (last +ℤ pos 1) = omega (arith, signed_arith) in
    record {
      narrow = rw (to_z-of_z w64 last wide) (to_z-of_z w32 last narrow);
      next = to_z-of_z w32 (last +ℤ pos 1) fits;
      fits = fits;
      after = after;
      before = before;
    }

-- the same, of what is computed
found : (day change from last : ℤ) → FitsSigned w32 day → FitsSigned w64 change → first_day ≤ℤ day → day ≤ℤ calendar_end → IsMovedNanos change
    → from ≡ to_z w32 (of_z w32 day)
    → int_le (to_z w64 (of_z w64 change)) (to_z w64 (of_z w64 (to_z w64 (of_z w64 from) *ℤ pos 86400000000000))) ≡ false
    → last ≡ int_div_euclid (to_z w64 (of_z w64 (to_z w64 (of_z w64 change) -ℤ pos 1))) (pos 86400000000000) → IsLast day change last
found day change from last day_fits change_fits low high near e test is =
    let midnight = midnight_bits day from day_fits low high e in
    let before_fits : FitsSigned w64 (change -ℤ pos 1) = omega (arith, signed_arith) in
    let less : (day *ℤ pos 86_400_000_000_000) <ℤ change = omega (arith, signed_arith, rw (midnight, to_z-of_z w64 change change_fits) at test) in
    last_is day change last low high near less (rw (to_z-of_z w64 change change_fits, to_z-of_z w64 (change -ℤ pos 1) before_fits) at is)

pub returns-then-change-from-clause-same : goal.returns-then-change-from-clause-same
returns-then-change-from-clause-same c =
    let midnight = midnight_bits c.args.day c.from.result c.ranges.day c.requires.low c.requires.high c.from.ensures in
    let past : c.args.change ≤ℤ (c.args.day *ℤ pos 86_400_000_000_000) =
    omega (arith, signed_arith, rw (midnight, to_z-of_z w64 c.args.change c.ranges.change) at c.if-change-from.true) in
    λ later from _. side_after c.args.change (c.args.day *ℤ pos 86_400_000_000_000) (later *ℤ pos 86_400_000_000_000) past (later_midnight c.args.day later from)

pub overflow_add-changed : goal.overflow_add-changed
overflow_add-changed c =
    let last = found c.args.day c.args.change c.from.result c.div_euclid.result c.ranges.day c.ranges.change c.requires.low c.requires.high c.requires.change
    c.from.ensures c.if-change-from.false c.div_euclid.ensures in
    rw last.narrow last.fits

pub returns-then-changed-next-clause-some : goal.returns-then-changed-next-clause-some
returns-then-changed-next-clause-some c =
    let last = found c.args.day c.args.change c.from.result c.div_euclid.result c.ranges.day c.ranges.change c.requires.low c.requires.high c.requires.change
    c.from.ensures c.if-change-from.false c.div_euclid.ensures in
    rw (last.narrow, last.next) last.after

pub returns-then-changed-next-clause-same : goal.returns-then-changed-next-clause-same
returns-then-changed-next-clause-same c =
    let last = found c.args.day c.args.change c.from.result c.div_euclid.result c.ranges.day c.ranges.change c.requires.low c.requires.high c.requires.change
    c.from.ensures c.if-change-from.false c.div_euclid.ensures in
    λ later from until.
    let within : later <ℤ (c.div_euclid.result +ℤ pos 1) = rw (last.narrow, last.next) at until in
    side_before c.args.change (c.args.day *ℤ pos 86_400_000_000_000) (later *ℤ pos 86_400_000_000_000) (later_midnight c.args.day later from)
    (still_before c.div_euclid.result later c.args.change within last.before)

pub returns-else-changed-next-clause-same : goal.returns-else-changed-next-clause-same
returns-else-changed-next-clause-same c =
    let last = found c.args.day c.args.change c.from.result c.div_euclid.result c.ranges.day c.ranges.change c.requires.low c.requires.high c.requires.change
    c.from.ensures c.if-change-from.false c.div_euclid.ensures in
    let next : c.args.next ≤ℤ (c.div_euclid.result +ℤ pos 1) =
    omega (arith, signed_arith, rw (last.narrow, last.next, to_z-of_z w32 c.args.next c.ranges.next) at c.if-changed-next.false) in
    λ later from until.
    let before : later <ℤ c.args.next = rw (to_z-of_z w32 c.args.next c.ranges.next) at until in
    let within : later <ℤ (c.div_euclid.result +ℤ pos 1) = omega (arith, signed_arith) in
    side_before c.args.change (c.args.day *ℤ pos 86_400_000_000_000) (later *ℤ pos 86_400_000_000_000) (later_midnight c.args.day later from)
    (still_before c.div_euclid.result later c.args.change within last.before)
