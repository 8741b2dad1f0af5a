-- The mean discharge of a day.
use Rattle.std.proofs.Common.{◌≡◌, ℕ, ◌+◌, ◌*◌, ◌/◌, ◌<◌, ◌≤◌, true, false, refl, arith}
use Rattle.std.specs.Prelude.{ℤ, pos, negsuc, nat_le, ◌≤ℤ◌, unsigned_abs}
use Rattle.std.proofs.lemmas.Int.{ints}
use Rattle.std.proofs.Math.Nat.{div-lt_iff_lt-mul}
use Rattle.std.proofs.lemmas.Bool.Decides.{nat_tests}
use Rattle.daily_values.specs.Figures.{DayFigures, needed}
use Rattle.fixed_units.specs.Quantities.{most_discharge}
use Rattle.fixed_units.specs.Rounding.{round}
use Rattle.trial.specs.Figures.{mean_of}

-- ---- a sum of discharges over so many seconds has a discharge as its mean

quotient_few : (n d most : ℕ) → 0 < d → n ≤ 2 * most * d → (2 * n + 2 * d) / (2 * (2 * d)) ≤ most
quotient_few n d most some few =
    let below : (2 * n + 2 * d) / (2 * (2 * d)) < most + 1 = (div-lt_iff_lt-mul {k = 2 * (2 * d)} {x = 2 * n + 2 * d} {y = most + 1} (omega arith)).1 (omega arith) in
    omega arith

pub mean_few : (twice : ℤ) (seconds : ℕ) → 0 < seconds → pos 0 ≤ℤ twice → twice ≤ℤ pos (2 * most_discharge * seconds)
    → unsigned_abs (round twice (pos (2 * seconds))) ≤ most_discharge
unfolding round
mean_few (pos n) seconds some low high = quotient_few n seconds most_discharge some (omega (arith, ints, high))
mean_few (negsuc n) seconds some low high = absurd (omega (arith, ints, low))

pub mean_covered : (figures : DayFigures) (mean : ℕ) → needed figures ≤ figures.discharge.covered
    → mean ≡ unsigned_abs (round figures.discharge.twice (pos (2 * figures.discharge.covered))) → mean ≡ mean_of figures
unfolding mean_of
mean_covered figures mean e h =
    let test : nat_le (needed figures) figures.discharge.covered ≡ true = grind (arith, nat_tests, e) in rw test h

pub mean_uncovered : (figures : DayFigures) → figures.discharge.covered < needed figures → 0 ≡ mean_of figures
unfolding mean_of
mean_uncovered figures e =
    let test : nat_le (needed figures) figures.discharge.covered ≡ false = grind (arith, nat_tests, e) in rw test refl
