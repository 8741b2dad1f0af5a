-- Places on an axis.
use Rattle.std.proofs.Common.{◌≡◌, sym, subst, inl, inr, ℕ, ◌+◌, ℤ, pos, negsuc, ◌+ℤ◌, ◌-ℤ◌, ◌*ℤ◌, ◌≤ℤ◌, unsigned_abs, refl, arith}
use Rattle.std.proofs.lemmas.Bool.{cases_lt}
use Rattle.std.proofs.lemmas.Int.{ints}
use Rattle.fixed_units.specs.Quantities.{IsWithin}
use Rattle.fixed_units.specs.Rounding.{IsRounded, round}
use Rattle.drawings.specs.Axes.{IsBetween, IsPlace}
use Rattle.drawings.specs.declared.axes.Axis.{Axis}

-- what is s and a rounded quotient has that quotient over s
pub rounded_over : (m s a d : ℤ) → m ≡ s +ℤ round a d → IsRounded a d (round a d) → IsRounded a d (m -ℤ s)
rounded_over m s a d is rounded =
    let over : round a d ≡ m -ℤ s = omega (arith, ints, is) in subst (IsRounded a d) over rounded

-- a number that is not below 0 is its magnitude
pub magnitude : (m : ℤ) → pos 0 ≤ℤ m → pos (unsigned_abs m) ≡ m
magnitude (pos n) low = refl
magnitude (negsuc n) low = absurd (omega (arith, ints, low))

-- what keeps to each range that has two places keeps to the numbers from 0 on
keeps_low : (s e : ℕ) (m : ℤ) → ((least greatest : ℤ) → IsWithin least greatest (pos s) → IsWithin least greatest (pos e) → IsWithin least greatest m) → pos 0 ≤ℤ m
keeps_low s e m between =
    (between (pos 0) (pos (s + e)) (record { low = omega (arith, ints); high = omega (arith, ints) }) (record { low = omega (arith, ints); high = omega (arith, ints) })).low

-- and it lies between the two
keeps_between : (s e p : ℕ) (m : ℤ) → pos p ≡ m
    → ((least greatest : ℤ) → IsWithin least greatest (pos s) → IsWithin least greatest (pos e) → IsWithin least greatest m) → IsBetween s e p
keeps_between s e p m is between =
    elim (cases_lt s e) [
      | inl less ↦
          let w = between (pos s) (pos e) (record { low = omega (arith, ints); high = omega (arith, ints, less) })
          (record { low = omega (arith, ints, less); high = omega (arith, ints) }) in
          inl (omega (arith, ints, is, w.low), omega (arith, ints, is, w.high))
      | inr more ↦
          let w = between (pos e) (pos s) (record { low = omega (arith, ints, more); high = omega (arith, ints) })
          (record { low = omega (arith, ints); high = omega (arith, ints, more) }) in
          inr (omega (arith, ints, is, w.low), omega (arith, ints, is, w.high))
    ]

-- the magnitude of what is on the line is the place
pub place_of_units : (axis : Axis) (n m : ℤ) (p : ℕ) → p ≡ unsigned_abs m
    → ((least greatest : ℤ) → IsWithin least greatest (pos axis.start) → IsWithin least greatest (pos axis.end) → IsWithin least greatest m)
    → IsRounded ((pos axis.end -ℤ pos axis.start) *ℤ (n -ℤ axis.least)) (axis.greatest -ℤ axis.least) (m -ℤ pos axis.start) → IsPlace axis n p
place_of_units axis n m p is between rounded =
    let same : pos p ≡ m = subst (λ (q : ℕ). pos q ≡ m) (sym is) (magnitude m (keeps_low axis.start axis.end m between)) in
    record {
      inside = keeps_between axis.start axis.end p m same between;
      near =
          subst (λ (q : ℤ). IsRounded ((pos axis.end -ℤ pos axis.start) *ℤ (n -ℤ axis.least)) (axis.greatest -ℤ axis.least) (q -ℤ pos axis.start)) (sym same) rounded;
    }
