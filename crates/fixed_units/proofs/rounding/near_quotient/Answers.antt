-- What equals itself is a number.
use mathlib.Core.Path.{◌≡◌}
use mathlib.Core.Bool.{false, not, true≢false}
use lib.Dec.{T}
use lib.Ieee.{Float, nan, inf, fin, is_nan, ne}
use Rattle.fixed_units.proofs.rounding.near_quotient.Goals as goal

equals_itself : (x : Float) → ne x x ≡ false → T (not (is_nan x))
unfolding ne is_nan
equals_itself nan h = absurd (true≢false h)
equals_itself (inf s) h = tt
equals_itself (fin s m e) h = tt

pub float_to_bits-result : goal.float_to_bits-result
float_to_bits-result c = equals_itself _ c.if-shifted.false
