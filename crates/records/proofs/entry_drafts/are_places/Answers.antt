-- Point by point.
use Rattle.std.proofs.Common.{rules}
use Rattle.std.proofs.lemmas.Iterator.{YieldsList-from_slice, cases_from_all}
use borrow.Author.Tests.{tests}
use Rattle.edits.specs.Lawful.{IsPutPoint}
use Rattle.edits.proofs.TestLemmas.{all_told}
use Rattle.records.proofs.entry_drafts.are_places.Goals as goal

pub returns : goal.returns
returns c =
    all_told IsPutPoint c.all.result c.args.points.now
    (cases_from_all _ _ _ IsPutPoint (λ p. ¬ IsPutPoint p) c.all.ensures.ran (YieldsList-from_slice c.args.points.now cc)
    (λ x q k. search (rules, tests)) (λ x q k. search (rules, tests)))
