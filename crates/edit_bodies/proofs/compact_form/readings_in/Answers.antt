use Rattle.std.proofs.Common.{◌∷◌, ◌++◌, [], Some, IfSome, option_and_then, refl, sym, ap, ◌∙◌, subst, rules}
use Rattle.edit_bodies.proofs.CompactLemmas.{commas, commas-push, rows-closed, states_more}
use Rattle.edit_bodies.proofs.ReadingLemmas.{front_kept, front_pushed, kept_put}
use Rattle.edit_bodies.proofs.compact_form.readings_in.Goals as goal
use Rattle.edit_bodies.specs.CompactForm.{row_spelled}
use Rattle.edit_bodies.specs.Grammars.{are_put, kept_if}
use Rattle.edit_bodies.specs.Trees.{items_of}
use Rattle.edit_bodies.specs.UsualForm.{rows_json}
use Rattle.edits.specs.Lawful.{ArePutReadings}

pub loop-readings-preserved : goal.loop-readings-preserved
loop-readings-preserved c =
    let kept = c.loop-readings.invariant.1 in
    let adds = c.in_ok-next.ensures.row in (
      search rules,
      (
        kept.0 ++ adds.0 ∷ [],
        kept.1 ∙ ap (λ l. commas kept.0 ++ l) (adds.2 ∙ ap (λ l. row_spelled adds.0 ++ l) c.in-Some.ensures.parts) ∙ sym (commas-push kept.0 adds.0 c.in-Some.more.now),
        states_more adds.0 kept.0 c.loop-readings.readings.items c.add_row.new.readings.items adds.1 kept.2 adds.3 adds.4,
      ),
      (front_pushed c.add_row.new.readings.items c.in_ok-next.ensures.put).rising,
    )

pub returns-in-None-clause-rows : goal.returns-in-None-clause-rows
returns-in-None-clause-rows c =
    let kept = c.loop-readings.invariant.1 in
    let adds = c.in_ok-next.ensures.row in (
      kept.0 ++ adds.0 ∷ [],
      kept.1 ∙ ap (λ l. commas kept.0 ++ l) (adds.2 ∙ ap (λ l. row_spelled adds.0 ++ l) c.in_ok-end-in-None.ensures.parts) ∙ rows-closed kept.0 adds.0 c.in_ok-end-in-None.end.now,
      ap (option_and_then (kept_if are_put)) (states_more adds.0 kept.0 c.loop-readings.readings.items c.add_row.new.readings.items adds.1 kept.2 adds.3 adds.4)
          ∙ front_kept c.add_row.new.readings.items c.in_ok-next.ensures.put ∙ ap Some (sym c.shrink_to_fit.ensures.items ∙ sym c.from_vec.ensures),
    )

pub returns-in-None-clause-put : goal.returns-in-None-clause-put
returns-in-None-clause-put c =
    let kept = c.loop-readings.invariant.1 in
    let adds = c.in_ok-next.ensures.row in
    let items = c.add_row.new.readings.items in
    let more = states_more adds.0 kept.0 c.loop-readings.readings.items items adds.1 kept.2 adds.3 adds.4 in
    let may = subst (λ o. IfSome o ArePutReadings) (front_kept items c.in_ok-next.ensures.put) (kept_put (items_of (rows_json (kept.0 ++ adds.0 ∷ []))) (Some items) items (sym more) refl) in
    subst ArePutReadings (sym (c.from_vec.ensures ∙ c.shrink_to_fit.ensures.items)) may
