-- A record for which there is no room.
use Rattle.migration.proofs.RoomLemmas.{no_room}
use Rattle.migration.proofs.reading.has_room.Goals as goal

pub returns-then-left-len : goal.returns-then-left-len
returns-then-left-len c = (
  λ e. absurd (cc),
  λ room. absurd (no_room c.args.records.now c.loop-piece.piece-index c.piece-item.result c.loop-piece.left c.block_len-len.result c.args.limit
      c.loop-piece-test.true c.piece-item.is c.loop-piece.invariant c.block_len-len.ensures c.if-left-len.true room),
)
