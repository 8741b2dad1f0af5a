use Rattle.std.specs.Prelude.{◌≡◌, ◌++◌, take}
use Rattle.drawings.specs.Parts.{parts_text}
use Rattle.drawings.proofs.parts.write_parts.Given as goal

-- the parts so far were added
abbrev pub invariant-loop-part : goal.invariant-loop-part
invariant-loop-part l = l.out ≡ l.fn.out ++ parts_text (take l.part-index l.parts)
