-- The byte stands in what is left.
use Rattle.std.proofs.Common.{◌≡◌, length}
use Rattle.logger_files.specs.Times.{half_at}
use Rattle.logger_files.proofs.times.half_at.Given as goal

abbrev pub invariant-loop-letters : goal.invariant-loop-letters
invariant-loop-letters l = half_at l.pattern l.text ≡ half_at l.letters l.bytes

abbrev pub decreases-loop-letters : goal.decreases-loop-letters
decreases-loop-letters l = length l.letters
