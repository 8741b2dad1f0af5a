-- What is left is formed exactly where the whole is.
use Rattle.std.proofs.Common.{◌≡◌, length}
use Rattle.logger_files.specs.Times.{is_formed}
use Rattle.logger_files.proofs.times.is_formed.Given as goal

abbrev pub invariant-loop-letters : goal.invariant-loop-letters
invariant-loop-letters l = is_formed l.pattern l.text ≡ is_formed l.letters l.bytes

abbrev pub decreases-loop-letters : goal.decreases-loop-letters
decreases-loop-letters l = length l.letters
