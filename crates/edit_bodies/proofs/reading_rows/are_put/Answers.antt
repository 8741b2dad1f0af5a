-- Neighbour by neighbour.
use Rattle.std.proofs.Common.{◌≡◌, true, length, int_lt, Bool, ◌&&◌, sym, ap, ◌∙◌, arith, rules, tests}
use Rattle.std.proofs.lemmas.List.Sorted.{answers_always}
use Rattle.edit_bodies.proofs.ReadingLemmas.{count_told, order_told}
use Rattle.edit_bodies.proofs.reading_rows.are_put.Goals as goal
use Rattle.edit_bodies.specs.Grammars.{are_rising}

pub returns-then-is_reading_count : goal.returns-then-is_reading_count
returns-then-is_reading_count c =
    let yes : c.is_reading_count.result ≡ true = grind arith in
    let count = sym (count_told c.is_reading_count.result (length c.args.readings.now) c.is_reading_count.ensures) ∙ yes in
    let order = order_told c.args.readings.now c.is_sorted_by.result (c.is_sorted_by.ensures.cases (λ r s. int_lt r.at s.at) (answers_always _ _ _ (λ f a r g k. search (rules, tests)))) in
    order ∙ sym (ap (λ (b : Bool). b && are_rising c.args.readings.now) count)
