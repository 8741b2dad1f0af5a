-- The texts of published values.
use Rattle.std.specs.Prelude.{ℕ, ◌+◌, ◌-◌, ◌==◌, if◌then◌else◌, List, [], ◌∷◌, ◌++◌, length, take, drop, replicate, ℤ, pos, int_lt, unsigned_abs, decimal}
use Rattle.fixed_units.specs.declared.published.Published.{Published}

-- digits with zeros in front, so that at least one stands before the point
abbrev pub with_zeros : ℕ → List ℕ → List ℕ
with_zeros places digits = replicate (places + 1 - length digits) 48 ++ digits

-- a point and the decimals, where there are any
abbrev pub decimals_text : ℕ → List ℕ → List ℕ
decimals_text places digits = if places == 0 then [] else 46 ∷ digits

-- figures with a point before the last ones
abbrev pub pointed_text : ℕ → List ℕ → List ℕ
pointed_text places figures =
    take (length figures - places) figures ++ decimals_text places (drop (length figures - places) figures)

-- a minus before what is below 0
abbrev pub sign_text : ℤ → List ℕ
sign_text n = if int_lt n (pos 0) then 45 ∷ [] else []

-- the text of a published value
abbrev pub published_text : Published → List ℕ
published_text v = sign_text v.units ++ pointed_text v.places (with_zeros v.places (decimal (unsigned_abs v.units)))

-- a quantity with all its six decimals
abbrev pub micro_text : ℤ → List ℕ
micro_text millionths = published_text (record { units = millionths; places = 6 })

-- hundredths with two decimals
abbrev pub hundredths_text : ℤ → List ℕ
hundredths_text hundredths = published_text (record { units = hundredths; places = 2 })
