-- Piece by piece.
use Rattle.std.proofs.Common.{rules}
use Rattle.std.proofs.lemmas.Iterator.{YieldsList-from_slice, cases_from_all}
use borrow.Author.Tests.{tests}
use Rattle.edits.proofs.TestLemmas.{all_told}
use Rattle.records.proofs.PutLemmas.{IsFlagged}
use Rattle.records.proofs.reading_parsing.are_flagged.Goals as goal

pub returns : goal.returns
returns c =
    all_told IsFlagged c.all.result c.args.pieces.now
    (cases_from_all _ _ _ IsFlagged (λ p. ¬ IsFlagged p) c.all.ensures.ran (YieldsList-from_slice c.args.pieces.now cc)
    (λ x q k. search (rules, tests)) (λ x q k. search (rules, tests)))
