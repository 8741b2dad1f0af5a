-- Rounding to the nearest whole number, half away from zero (the rule of USGS rounding arrays).
use Rattle.std.specs.Prelude.{suc, ◌+◌, ◌*◌, ◌/◌, ℤ, pos, negsuc, neg_ℤ, ◌+ℤ◌, ◌-ℤ◌, ◌*ℤ◌, ◌≤ℤ◌, ◌<ℤ◌, unsigned_abs}

-- twice what n has over q times d
abbrev pub twice_rest : ℤ → ℤ → ℤ → ℤ
twice_rest n d q = (n -ℤ q *ℤ d) +ℤ (n -ℤ q *ℤ d)

-- q is the whole number nearest to n / d, of two equally near the one farther from 0: the rest is at
-- most half of d, and less than half on the side of 0
pub record IsRounded (n d q : ℤ) : Type 0 where
  pub low : neg_ℤ d ≤ℤ twice_rest n d q
  pub high : twice_rest n d q ≤ℤ d
  pub above : pos 0 ≤ℤ n → twice_rest n d q <ℤ d
  pub below : n ≤ℤ pos 0 → neg_ℤ d <ℤ twice_rest n d q

-- that number, for a d above 0; the laws of proofs/RoundingLemmas say that it is rounded, and the only one
unfoldable pub round : ℤ → ℤ → ℤ
round (pos n) d = pos ((2 * n + unsigned_abs d) / (2 * unsigned_abs d))
round (negsuc n) d = neg_ℤ (pos ((2 * suc n + unsigned_abs d) / (2 * unsigned_abs d)))
