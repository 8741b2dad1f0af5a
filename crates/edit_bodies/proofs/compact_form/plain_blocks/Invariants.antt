use Rattle.std.proofs.Common.{◌≡◌, ◌≤◌, ◌-◌, length, take}
use Rattle.json.specs.Print.{escape}
use Rattle.edit_bodies.proofs.compact_form.plain_blocks.Given as goal

abbrev pub invariant-loop-block : goal.invariant-loop-block
invariant-loop-block g l = (l.count ≤ length l.bytes) × (escape (take l.count l.bytes) ≡ take l.count l.bytes)

abbrev pub decreases-loop-block : goal.decreases-loop-block
decreases-loop-block g l = length l.bytes - l.count
