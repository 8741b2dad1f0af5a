-- The number stands in what is left, behind the digits that were passed.
use Rattle.std.proofs.Common.{◌≡◌, ◌≤◌, length}
use Rattle.logger_files.specs.Times.{number_behind}
use Rattle.logger_files.proofs.times.number_at.Given as goal

abbrev pub invariant-loop-letters : goal.invariant-loop-letters
invariant-loop-letters l = record {
  left : number_behind 0 l.letter l.pattern l.text ≡ number_behind l.number l.letter l.letters l.bytes;
  bound : l.number ≤ 9999;
}

abbrev pub decreases-loop-letters : goal.decreases-loop-letters
decreases-loop-letters l = length l.letters
