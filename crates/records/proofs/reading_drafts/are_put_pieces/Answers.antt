use Rattle.records.proofs.PieceLemmas.{put_are, put_counts, put_stand}
use Rattle.records.proofs.reading_drafts.are_put_pieces.Goals as goal

pub returns-then-is_reading_count : goal.returns-then-is_reading_count
returns-then-is_reading_count c =
    let count = c.is_reading_count.ensures.0 c.if-is_reading_count.true in (
      λ e. put_are c.args.pieces.now count.0 count.1 (c.are_rising_pieces.ensures.0 e),
      λ are. c.are_rising_pieces.ensures.1 (put_stand c.args.pieces.now are),
    )

pub returns-else-is_reading_count : goal.returns-else-is_reading_count
returns-else-is_reading_count c = (
  λ e. absurd cc,
  λ are. absurd (let yes = c.is_reading_count.ensures.1 (put_counts c.args.pieces.now are) in let no = c.if-is_reading_count.false in cc),
)
