-- Neighbour by neighbour.
use Rattle.std.proofs.Common.{rules, tests}
use Rattle.std.proofs.lemmas.List.Sorted.{answers_always}
use Rattle.records.specs.Parsing.{row_in}
use Rattle.records.proofs.RowLemmas.{is_behind, order_told}
use Rattle.records.proofs.rating_drafts.are_in_order.Goals as goal

pub returns : goal.returns
returns c =
    order_told c.args.rows.now c.is_sorted_by.result
    (c.is_sorted_by.ensures.cases (λ p q. is_behind (row_in p) (row_in q)) (answers_always _ _ _ (λ f a r g k. search (rules, tests))))
