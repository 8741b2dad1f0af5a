-- How long the texts of numbers, quantities, sites, days and instants are, and the lines that are made of them.
use Rattle.std.proofs.Common.{◌≡◌, refl, ℕ, zero, suc, ◌+◌, ◌-◌, ◌^◌, ◌<◌, ◌≤◌, false, ◌==◌, int_lt, List, ◌++◌, length, take, drop, replicate, ℤ, pos, negsuc, unsigned_abs, decimal, codes, arith, length-append, length-drop}
use Rattle.std.proofs.Math.Nat.{pow-le-pow_right}
use Rattle.std.proofs.lemmas.Bool.Decides.{nat_tests}
use Rattle.std.proofs.lemmas.Fmt.{length-decimal-le_wide}
use Rattle.std.proofs.lemmas.Int.{ints}
use Rattle.std.proofs.lemmas.List.{length-replicate, length-take-le}
use Rattle.fixed_units.specs.PublishedText.{with_zeros, decimals_text, pointed_text, sign_text, published_text, micro_text}
use Rattle.fixed_units.specs.Quantities.{SiteNumber, IsSite, IsMicro}
use Rattle.site_texts.proofs.WrittenLemmas.{site-few}
use Rattle.site_texts.specs.SiteText.{site_text}
use Rattle.fixed_units.specs.declared.published.Published.{Published}
use Rattle.civil_days.specs.Texts.{day_text, instant_text}
use Rattle.unit_discharge.specs.declared.unit_values.Unit.{Unit}
use Rattle.daily_values.specs.DayValue.{discharge_of}
use Rattle.daily_values.specs.declared.counts.Counts.{Counts}
use Rattle.sheets.specs.Sheets.{amount_or_dash, ended, missing_line, title_line, unit_text}

-- a number of 32 bits
pub count-few : (n : ℕ) → n < 2 ^ 32 → length (decimal n) ≤ 10
count-few n h = length-decimal-le_wide 10 n (omega arith) (omega arith) (omega arith)

-- digits with zeros in front
figures-few : (places most : ℕ) (digits : List ℕ) → places + 1 ≤ most → length digits ≤ most → length (with_zeros places digits) ≤ most
figures-few places most digits h k =
    let zeros : length {A = ℕ} (replicate (places + 1 - length digits) 48) ≡ places + 1 - length digits = length-replicate (places + 1 - length digits) 48 in
    omega (arith, zeros, length-append (replicate (places + 1 - length digits) 48) digits)

-- a sign, and a point with the decimals
sign-few : (z : ℤ) → length (sign_text z) ≤ 1
sign-few (pos n) = let not_below : int_lt (pos n) (pos 0) ≡ false = grind (arith, nat_tests) in rw not_below (omega arith)
sign-few (negsuc n) = omega arith

decimals-few : (places : ℕ) (digits : List ℕ) → length (decimals_text places digits) ≤ 1 + length digits
decimals-few zero digits = omega arith
decimals-few (suc places) digits = let some : (suc places == 0) ≡ false = grind (arith, nat_tests) in rw some (omega arith)

pointed-few : (places : ℕ) (figures : List ℕ) → length (pointed_text places figures) ≤ 1 + length figures
pointed-few places figures =
    let whole : length (take (length figures - places) figures) ≡ length figures - places = length-take-le (length figures - places) figures (omega arith) in
    let rest = length-drop (length figures - places) figures in
    let decimals = decimals-few places (drop (length figures - places) figures) in
    omega (arith, whole, rest, decimals, length-append (take (length figures - places) figures) (decimals_text places (drop (length figures - places) figures)))

pub published-few : (v : Published) (most : ℕ) → v.places + 1 ≤ most → length (decimal (unsigned_abs v.units)) ≤ most → length (published_text v) ≤ 2 + most
published-few v most h k =
    let figures = with_zeros v.places (decimal (unsigned_abs v.units)) in
    omega (arith, sign-few v.units, pointed-few v.places figures, figures-few v.places most (decimal (unsigned_abs v.units)) h k, length-append (sign_text v.units) (pointed_text v.places figures))

-- a published value whose units have 64 bits and whose places have 8
pub value-few : (v : Published) → unsigned_abs v.units ≤ 2 ^ 63 → v.places < 2 ^ 8 → length (published_text v) ≤ 258
value-few v h k = published-few v 256 (omega arith) (omega (arith, length-decimal-le_wide 19 (unsigned_abs v.units) (omega arith) (omega arith) (omega arith)))

-- a quantity with its six decimals
pub micro-few : (n : ℤ) → IsMicro n → length (micro_text n) ≤ 20
micro-few n h =
    let small : unsigned_abs n ≤ 10 ^ 17 = omega (arith, ints, h.low, h.high) in
    published-few (record { units = n; places = 6 }) 18 (omega arith) (length-decimal-le_wide 18 (unsigned_abs n) (omega arith) (omega arith) (omega arith))

-- a day, and an instant
pub day-length : (day : ℤ) → length (day_text day) ≡ 10
unfolding day_text
day-length day = refl

pub instant-length : (at : ℤ) → length (instant_text at) ≡ 20
unfolding day_text instant_text
instant-length at = refl

-- a line with its end
pub ended-length : (line : List ℕ) → length (ended line) ≡ length line + 1
ended-length line = length-append line (codes "\n")

-- the line of a site and a day
pub title-few : (site : SiteNumber) (day : ℤ) → IsSite site → length (ended (title_line site day)) ≤ 47
unfolding title_line
title-few site day h =
    let named = codes "PRIMARY COMPUTATION " ++ site_text site in
    omega (
      arith,
      ended-length (title_line site day),
      length-append (codes "PRIMARY COMPUTATION ") (site_text site),
      length-append named (codes " "),
      length-append (named ++ codes " ") (day_text day),
      site-few site h,
      day-length day,
    )

-- a name and a number behind what stands before
more : (line name number : List ℕ) (most few long : ℕ) → length line ≤ most → length number ≤ few → most + length name + few ≤ long
    → length (line ++ name ++ number) ≤ long
more line name number most few long h k room = omega (arith, h, k, room, length-append line name, length-append (line ++ name) number)

-- the line of four counts
pub missing-few : (counts : Counts) → length (decimal counts.affected) ≤ 10 → length (decimal counts.no_rating) ≤ 10 → length (decimal counts.below) ≤ 10
    → length (decimal counts.above) ≤ 10 → length (ended (missing_line counts)) ≤ 82
unfolding missing_line
missing-few counts a b c d =
    let affected = codes "MISSING AFFECTED " ++ decimal counts.affected in
    let no_rating = affected ++ codes " NORATING " ++ decimal counts.no_rating in
    let below = no_rating ++ codes " BELOW " ++ decimal counts.below in
    let first : length affected ≤ 27 = omega (arith, a, length-append (codes "MISSING AFFECTED ") (decimal counts.affected)) in
    let second = more affected (codes " NORATING ") (decimal counts.no_rating) 27 10 47 first b (omega arith) in
    let third = more no_rating (codes " BELOW ") (decimal counts.below) 47 10 64 second c (omega arith) in
    let fourth = more below (codes " ABOVE ") (decimal counts.above) 64 10 81 third d (omega arith) in
    omega (arith, fourth, ended-length (missing_line counts))

-- a unit value whole
pub unit-few : (u : Unit) → length (micro_text u.raw) ≤ 20 → length (micro_text u.correction) ≤ 20 → length (micro_text u.stage) ≤ 20
    → length (micro_text u.shift) ≤ 20 → length (amount_or_dash (discharge_of u)) ≤ 20 → length (unit_text u) ≤ 156
unfolding unit_text
unit-few u a b c d e =
    let at = instant_text u.at in
    let raw = at ++ codes " RAW " ++ micro_text u.raw in
    let correction = raw ++ codes " CORR " ++ micro_text u.correction in
    let stage = correction ++ codes " STAGE " ++ micro_text u.stage in
    let shift = stage ++ codes " SHIFT " ++ micro_text u.shift in
    let first = more at (codes " RAW ") (micro_text u.raw) 20 20 45 (omega (arith, instant-length u.at)) a (omega arith) in
    let second = more raw (codes " CORR ") (micro_text u.correction) 45 20 71 first b (omega arith) in
    let third = more correction (codes " STAGE ") (micro_text u.stage) 71 20 98 second c (omega arith) in
    let fourth = more stage (codes " SHIFT ") (micro_text u.shift) 98 20 125 third d (omega arith) in
    more shift (codes " DISCHARGE ") (amount_or_dash (discharge_of u)) 125 20 156 fourth e (omega arith)
