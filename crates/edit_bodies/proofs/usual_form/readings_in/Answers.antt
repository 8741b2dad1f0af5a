use Rattle.std.proofs.Common.{◌≡◌, ◌∷◌, ◌++◌, [], true, length, Some, IfSome, option_and_then, refl, sym, ap, ◌∙◌, subst, arith, tests}
use Rattle.std.proofs.lemmas.Grind.{common_steps}
use Rattle.edit_bodies.proofs.ReadingLemmas.{front_kept, front_pushed, front_put, kept_put}
use Rattle.edit_bodies.proofs.UsualLemmas.{one_row_more, rows_tokens, rows_tokens-closed}
use Rattle.edit_bodies.proofs.usual_form.readings_in.Goals as goal
use Rattle.edit_bodies.specs.Grammars.{are_put, kept_if}
use Rattle.edit_bodies.specs.Trees.{items_of}
use Rattle.edit_bodies.specs.UsualForm.{row_texts, rows_json}
use Rattle.edits.specs.Lawful.{ArePutReadings}
use Rattle.json.specs.Token.{end_array}

pub may_follow-requires : goal.may_follow-requires
may_follow-requires c = rw c.as_slice.ensures.value c.loop-reader.invariant.1.rising

pub loop-reader-preserved : goal.loop-reader-preserved
loop-reader-preserved c =
    let kept = c.loop-reader.invariant.0 in
    let same : c.closes_array.new.reader ≡ c.loop-reader.reader = grind arith in
    let follows : c.may_follow.result ≡ true = grind arith in
    let pushed : c.push.new.self.items ≡ c.loop-reader.readings.items ++ c.in_ok-reading.reading ∷ [] = grind (arith, common_steps) in (
      one_row_more (row_texts c.in_ok-row.row) kept.0 c.loop-reader.readings.items c.push.new.self.items c.in_ok-reading.reading c.args.reader.now c.loop-reader.reader c.next_row.new.reader kept.1 kept.2 (sym same ∙ c.in_ok-row.ensures.tokens) c.in_ok-reading.ensures pushed,
      front_pushed c.push.new.self.items (ap are_put pushed ∙ ap (λ rs. are_put (rs ++ c.in_ok-reading.reading ∷ [])) (sym c.as_slice.ensures.value) ∙ sym c.may_follow.ensures ∙ follows),
    )

pub returns-clause-rows : goal.returns-clause-rows
returns-clause-rows c =
    let kept = c.loop-reader.invariant.0 in
    let closed : c.loop-reader.reader ≡ end_array ∷ c.closes_array.new.reader = grind arith in
    let some : length c.loop-reader.readings.items ≡ 0 → ⊥ = λ e. grind (arith, tests) in
    let put = front_put c.loop-reader.readings.items c.loop-reader.invariant.1 some in (
      kept.0,
      kept.1 ∙ ap (λ l. rows_tokens kept.0 ++ l) closed ∙ rows_tokens-closed kept.0 c.closes_array.new.reader,
      ap (option_and_then (kept_if are_put)) kept.2 ∙ front_kept c.loop-reader.readings.items put ∙ ap Some (sym c.shrink_to_fit.ensures.items ∙ sym c.from_vec.ensures),
    )

pub returns-clause-put : goal.returns-clause-put
returns-clause-put c =
    let kept = c.loop-reader.invariant.0 in
    let items = c.loop-reader.readings.items in
    let some : length c.loop-reader.readings.items ≡ 0 → ⊥ = λ e. grind (arith, tests) in
    let put = front_put items c.loop-reader.invariant.1 some in
    let may = subst (λ o. IfSome o ArePutReadings) (front_kept items put) (kept_put (items_of (rows_json kept.0)) (Some items) items (sym kept.2) refl) in
    subst ArePutReadings (sym (c.from_vec.ensures ∙ c.shrink_to_fit.ensures.items)) may
