-- What is left of the limit, the header, a gate and the records so far are the limit.
use Rattle.std.proofs.Common.{◌≡◌, ◌+◌, flat_map, length, take}
use Rattle.journal.specs.JournalBytes.{block}
use Rattle.records.specs.declared.formats.Format.TheVariants.{Second}
use Rattle.migration.proofs.reading.has_room.Given as goal

abbrev pub invariant-loop-piece : goal.invariant-loop-piece
invariant-loop-piece l = l.left + (17 + length (flat_map (block Second) (take l.piece-index l.records))) ≡ l.limit
