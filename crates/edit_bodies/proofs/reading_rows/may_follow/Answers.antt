use Rattle.std.proofs.Common.{◌≡◌, ◌++◌, ◌∷◌, [], true, false, Bool, ◌&&◌, sym, ap, ◌∙◌, arith}
use Rattle.edit_bodies.proofs.ReadingLemmas.{count_pushed}
use Rattle.edit_bodies.proofs.reading_rows.may_follow.Goals as goal
use Rattle.edit_bodies.specs.Grammars.{are_rising}

pub returns-then-is_reading_count : goal.returns-then-is_reading_count
returns-then-is_reading_count c =
    let yes : c.is_reading_count.result ≡ true = grind arith in
    let count = sym (count_pushed c.args.readings.now c.args.reading.now c.is_reading_count.result c.is_reading_count.ensures) ∙ yes in
    c.is_later.ensures ∙ sym (ap (λ (b : Bool). b && are_rising (c.args.readings.now ++ c.args.reading.now ∷ [])) count)

pub returns-else-is_reading_count : goal.returns-else-is_reading_count
returns-else-is_reading_count c =
    let no : c.is_reading_count.result ≡ false = grind arith in
    let count = sym (count_pushed c.args.readings.now c.args.reading.now c.is_reading_count.result c.is_reading_count.ensures) ∙ no in
    no ∙ sym (ap (λ (b : Bool). b && are_rising (c.args.readings.now ++ c.args.reading.now ∷ [])) count)
