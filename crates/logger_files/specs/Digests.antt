-- A number that is made of a text, so that equal texts have equal numbers and others hardly ever have.
use Rattle.std.specs.Prelude.{ℕ, ◌+◌, ◌*◌, ◌%◌, List, [], ◌∷◌}

-- the prime 2^61 - 1, below which the numbers are
abbrev pub modulus : ℕ
modulus = 2_305_843_009_213_693_951

abbrev pub base : ℕ
base = 1_000_003

-- a number with a byte behind it
abbrev pub digest_byte : ℕ → ℕ → ℕ
digest_byte before b = (before * base + b + 1) % modulus

-- the number of a text behind another number
unfoldable pub digest_from : ℕ → List ℕ → ℕ
digest_from before [] = before
digest_from before (b ∷ text) = digest_from (digest_byte before b) text
