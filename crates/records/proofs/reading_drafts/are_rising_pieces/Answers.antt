-- Neighbour by neighbour.
use Rattle.std.proofs.Common.{rules, tests, arith, subst, []}
use Rattle.std.proofs.lemmas.List.{get_or_default}
use Rattle.std.proofs.lemmas.List.Sorted.{answers_always}
use Rattle.edits.proofs.TestLemmas.{rising_told}
use Rattle.records.proofs.PieceLemmas.{instant_in, IsPutPiece, follows_in, follows_in_told}
use Rattle.records.proofs.reading_drafts.are_rising_pieces.Goals as goal

pub returns-then-is_put_piece : goal.returns-then-is_put_piece
returns-then-is_put_piece c =
    rising_told instant_in IsPutPiece follows_in follows_in_told c.args.pieces.now c.is_sorted_by.result c.requires
    (λ d. subst IsPutPiece (get_or_default c.args.pieces.now 0 [] d (omega (arith, c.requires))) (c.is_put_piece.ensures.range.0 c.if-is_put_piece.true))
    (c.is_sorted_by.ensures.cases follows_in (answers_always _ _ _ (λ f a r g k. search (rules, tests))))
