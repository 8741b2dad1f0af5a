-- Fractions of whole numbers.
use Rattle.std.specs.Prelude.{◌≡◌, List, [], ◌∷◌, ℤ, pos, ◌+ℤ◌, ◌*ℤ◌}
use Rattle.fixed_units.specs.Rounding.{round}
use Rattle.midsection.specs.declared.fractions.Fraction.{Fraction}

-- a whole number, and half of one
abbrev pub whole : ℤ → Fraction
whole n = record { num = n; den = pos 1 }

abbrev pub half : ℤ → Fraction
half n = record { num = n; den = pos 2 }

-- products and sums
abbrev pub times : Fraction → Fraction → Fraction
times a b = record { num = a.num *ℤ b.num; den = a.den *ℤ b.den }

abbrev pub plus : Fraction → Fraction → Fraction
plus a b = record { num = a.num *ℤ b.den +ℤ b.num *ℤ a.den; den = a.den *ℤ b.den }

abbrev pub sum : List Fraction → Fraction
sum [] = whole (pos 0)
sum (f ∷ fs) = plus f (sum fs)

-- both are one number
abbrev pub IsEqual : Fraction → Fraction → Type 0
IsEqual a b = a.num *ℤ b.den ≡ b.num *ℤ a.den

-- the nearest whole number, half away from zero
abbrev pub rounded : Fraction → ℤ
rounded f = round f.num f.den
