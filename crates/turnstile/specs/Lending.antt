-- A value that is lent for writing.
use Rattle.turnstile.specs.declared.held.Held.{Held}

-- a holding with another value
abbrev pub with_value : {T E F : Type 0} → Held T E F → T → Held T E F
with_value held w = record held { value = w }
