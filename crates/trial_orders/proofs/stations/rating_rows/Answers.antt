use Rattle.std.proofs.Common.{◌≡◌, ℤ, ℕ, arith, ap, ◌∙◌, ◌++◌, ◌∷◌, [], map, true, rules}
use Rattle.std.specs.List.{range_with_len}
use Rattle.std.specs.Result.{is_ok}
use Rattle.trial_orders.specs.Questions.{rating_row, rating_rows}
use Rattle.trial_orders.proofs.PartLemmas.{next_value}
use Rattle.trial_orders.proofs.stations.rating_rows.Goals as goal

pub loop-feet-preserved : goal.loop-feet-preserved
loop-feet-preserved c =
    let good : is_ok c.push.result ≡ true = search rules in
    let items = rw good at c.push.ensures.items in
    next_value rating_row c.loop-feet.feet c.loop-feet.rows.items c.push.new.self.items c.loop-feet.invariant
    (items ∙ ap (λ (row : ℤ × ℤ). c.loop-feet.rows.items ++ row ∷ []) c.rating_row.ensures)

pub returns : goal.returns
unfolding rating_rows
returns c =
    let all : c.loop-feet.feet ≡ 21 = omega arith in
    c.loop-feet.invariant ∙ ap (λ (n : ℕ). map rating_row (range_with_len 0 n)) all
