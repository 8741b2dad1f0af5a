-- The parts begin with the bytes that were passed.
use Rattle.std.proofs.Common.{◌≤◌, ◌-◌, length}
use Rattle.logger_files.proofs.PartLemmas.{AreParted}
use Rattle.logger_files.proofs.fields.part_end.Given as goal

abbrev pub invariant-loop-end : goal.invariant-loop-end
invariant-loop-end l = record { within : l.end ≤ length l.text; parted : AreParted l.separator l.text l.end l.quoted }

abbrev pub decreases-loop-end : goal.decreases-loop-end
decreases-loop-end l = length l.text - l.end
