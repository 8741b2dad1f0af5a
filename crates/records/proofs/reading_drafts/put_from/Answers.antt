use Rattle.std.proofs.Common.{arith, []}
use Rattle.records.proofs.PieceLemmas.{put_piece}
use Rattle.records.proofs.WritingLemmas.{read_more}
use Rattle.records.proofs.reading_drafts.put_from.Goals as goal
use Rattle.records.specs.Parsing.{reading_in}

pub reading_from-requires : goal.reading_from-requires
reading_from-requires c = put_piece c.args.pieces.now c.loop-piece.piece-index [] (omega arith) c.requires

pub loop-piece-preserved : goal.loop-piece-preserved
loop-piece-preserved c =
    read_more reading_in _ _ _ c.args.pieces.now c.loop-piece.piece-index _ c.loop-piece-test.true c.in_ok-push.ensures.items c.reading_from.ensures c.loop-piece.invariant
