use Rattle.std.proofs.Common.{sym, ◌∙◌}
use Rattle.records.proofs.RowLemmas.{rating_is, rating_counts, rating_ranges}
use Rattle.records.proofs.rating_drafts.are_rating_rows.Goals as goal
use Rattle.records.proofs.rating_drafts.are_rating_rows.Goals.{then-is_count, else-is_count}

pub returns-then-are_in_range : goal.returns-then-are_in_range
returns-then-are_in_range c =
    elim c.if-is_count.branch [
      | then-is_count w ↦
          let count = c.is_count.ensures.0 w.if-is_count.true in
          let ranges = w.are_in_range.ensures.0 (sym w.value-is ∙ c.if-are_in_range.true) in (
            λ e. rating_is c.args.rows.now count.0 count.1 ranges (c.are_in_order.ensures.0 e),
            λ rating. c.are_in_order.ensures.1 rating.table.order,
          )
      | else-is_count w ↦ absurd (let e = c.if-are_in_range.true in let f = w.value-is in cc)
    ]

pub returns-else-are_in_range : goal.returns-else-are_in_range
returns-else-are_in_range c =
    elim c.if-is_count.branch [
      | then-is_count w ↦ (
        λ e. absurd (let f = c.if-are_in_range.false in cc),
        λ rating. w.value-is ∙ w.are_in_range.ensures.1 (rating_ranges c.args.rows.now rating),
      )
      | else-is_count w ↦ (
        λ e. absurd (let f = c.if-are_in_range.false in cc),
        λ rating. absurd (let yes = c.is_count.ensures.1 (rating_counts c.args.rows.now rating) in let no = w.if-is_count.false in cc),
      )
    ]
