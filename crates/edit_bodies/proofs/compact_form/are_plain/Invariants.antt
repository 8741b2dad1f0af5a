use Rattle.std.proofs.Common.{◌≡◌, true, take}
use Rattle.json.specs.Print.{escape}
use Rattle.edit_bodies.proofs.compact_form.are_plain.Given as goal

abbrev pub invariant-loop-byte : goal.invariant-loop-byte
invariant-loop-byte g l = l.plain ≡ true → escape (take l.byte-index l.block) ≡ take l.byte-index l.block
