use Rattle.std.specs.Prelude.{◌≡◌, ◌++◌, take}
use Rattle.drawings.specs.Escapes.{escaped}
use Rattle.drawings.proofs.escapes.write_escaped.Given as goal

-- the bytes so far were added
abbrev pub invariant-loop-byte : goal.invariant-loop-byte
invariant-loop-byte l = l.out ≡ l.fn.out ++ escaped (take l.byte-index l.name)
