-- Days gone over one after another, by their numbers in 32 bits.
use Rattle.std.specs.Prelude.{◌≡◌, true, false, ℤ, pos, ◌+ℤ◌, ◌≤ℤ◌, ◌<ℤ◌, int_lt}
use Rattle.std.proofs.Common.{arith, to_z, of_z, w32}
use Rattle.std.proofs.lemmas.Int.{ints}
use Rattle.fixed_units.specs.Quantities.{IsDay, first_day}

-- the first number is that of the first day
pub first_number : (from number : ℤ) → IsDay from → number ≡ from → to_z w32 (of_z w32 number) ≡ from
first_number from number k e =
    let low = k.low in
    let high = k.high in
    omega (arith, ints)

-- up to the last day a number is that of a day, and the next one follows it
pub record IsOnTheWay (to number : ℤ) : Type 0 where
  pub day : IsDay number
  pub within : number ≤ℤ to
  pub next : to_z w32 (of_z w32 (number +ℤ pos 1)) ≡ number +ℤ pos 1

pub on_the_way : (from to last number : ℤ) → first_day ≤ℤ from → from ≤ℤ number → IsDay to → last ≡ to
    → int_lt number (to_z w32 (of_z w32 (to_z w32 (of_z w32 last) +ℤ pos 1))) ≡ true → IsOnTheWay to number
on_the_way from to last number first least k e test =
    let low = k.low in
    let high = k.high in
    let within : number ≤ℤ to = omega (arith, ints, test) in
    record {
      day = record { low = omega (arith, ints, first, least); high = omega (arith, ints, within, high) };
      within = within;
      next = omega (arith, ints);
    }

-- and behind it no day is left
pub behind_the_way : (to last number : ℤ) → IsDay to → last ≡ to → int_lt number (to_z w32 (of_z w32 (to_z w32 (of_z w32 last) +ℤ pos 1))) ≡ false → to <ℤ number
behind_the_way to last number k e test =
    let low = k.low in
    let high = k.high in
    omega (arith, ints, test)
