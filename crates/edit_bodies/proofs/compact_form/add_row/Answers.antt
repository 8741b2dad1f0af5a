use Rattle.std.proofs.Common.{◌≡◌, ◌++◌, ◌∷◌, [], true, sym, ap, ◌∙◌, arith}
use Rattle.std.proofs.lemmas.Grind.{common_steps}
use Rattle.edit_bodies.proofs.compact_form.add_row.Goals as goal
use Rattle.edit_bodies.specs.Grammars.{are_put}
use Rattle.edit_bodies.specs.UsualForm.{row_texts}

pub may_follow-requires : goal.may_follow-requires
may_follow-requires c = rw c.as_slice.ensures.value c.requires

pub returns-clause-row : goal.returns-clause-row
returns-clause-row c =
    let pushed : c.push.new.self.items ≡ c.args.readings.now.items ++ c.in_ok-reading.reading ∷ [] = grind (arith, common_steps) in
    (row_texts c.in_ok-row.row, c.in_ok-reading.reading, c.in_ok-row.ensures.spelled, c.in_ok-reading.ensures, pushed)

pub returns-clause-put : goal.returns-clause-put
returns-clause-put c =
    let follows : c.may_follow.result ≡ true = grind arith in
    let pushed : c.push.new.self.items ≡ c.args.readings.now.items ++ c.in_ok-reading.reading ∷ [] = grind (arith, common_steps) in
    ap are_put pushed ∙ ap (λ rs. are_put (rs ++ c.in_ok-reading.reading ∷ [])) (sym c.as_slice.ensures.value) ∙ sym c.may_follow.ensures ∙ follows

pub returns-clause-shorter : goal.returns-clause-shorter
returns-clause-shorter c = c.in_ok-row.ensures.shorter
