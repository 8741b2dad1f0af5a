use Rattle.std.proofs.Common.{◌≡◌, take}
use Rattle.records.specs.Parsing.{readings_in}
use Rattle.records.proofs.reading_drafts.put_from.Given as goal

abbrev pub invariant-loop-piece : goal.invariant-loop-piece
invariant-loop-piece l = l.readings.items ≡ readings_in (take l.piece-index l.pieces)
