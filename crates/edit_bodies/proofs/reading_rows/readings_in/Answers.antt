use Rattle.std.proofs.Common.{◌≡◌, false, length, Option, option_and_then, option_map, IfSome, refl, sym, ap, ◌∙◌, subst, arith}
use Rattle.edit_bodies.proofs.ReadingLemmas.{count_told, kept_put, wrong_count}
use Rattle.edit_bodies.proofs.TextLemmas.{ok_or-each}
use Rattle.edit_bodies.proofs.reading_rows.readings_in.Goals as goal
use Rattle.edit_bodies.specs.Grammars.{are_put, each_of, kept_if, reading_of}
use Rattle.edit_bodies.specs.Trees.{items_stated}
use Rattle.edits.specs.Lawful.{ArePutReadings}
use Rattle.serde_json.specs.Data.{Items}

pub returns-then-not-is_reading_count-clause-found : goal.returns-then-not-is_reading_count-clause-found
returns-then-not-is_reading_count-clause-found c =
    let no : c.is_reading_count.result ≡ false = grind arith in
    let wrong = sym (count_told c.is_reading_count.result (length c.in-Some.items.now) c.is_reading_count.ensures) ∙ no in (
      ap (λ (o : Option Items). option_and_then (kept_if are_put) (option_and_then (each_of reading_of) o)) (sym c.in-Some.ensures)
          ∙ wrong_count c.in-Some.items.now wrong,
      refl,
    )

pub returns-in-Ok-Some-clause-put : goal.returns-in-Ok-Some-clause-put
returns-in-Ok-Some-clause-put c =
    let put = kept_put (items_stated c.in-Some.items.now) _ c.in-Ok-Some.readings.items c.in-Ok-Some.ensures (ap (option_map (λ readings. readings.items)) c.in-Ok-Some.field-0-is) in
    rw c.ok_or.ensures.value (ok_or-each ArePutReadings c.list_from.result _ (subst (λ o. IfSome o ArePutReadings) (sym c.list_from.ensures) put))
