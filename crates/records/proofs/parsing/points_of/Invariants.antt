-- So many points were read, and what is read behind them makes the whole.
use Rattle.std.proofs.Common.{◌≡◌, ◌-◌, length}
use Rattle.records.specs.Parsing.{points_at}
use Rattle.records.proofs.CurveLemmas.{with_front}
use Rattle.records.proofs.parsing.points_of.Given as goal

abbrev pub invariant-loop : goal.invariant-loop
invariant-loop l =
    (length l.points.items ≡ l.counter) × (with_front l.points.items (points_at (l.count - l.counter) l.rest) ≡ points_at l.count l.bytes)
