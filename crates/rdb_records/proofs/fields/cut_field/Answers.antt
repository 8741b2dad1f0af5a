-- The first field ends where the search found a tab, or with the text.
use Rattle.std.proofs.Common.{◌∙◌, ap, sym, subst, ◌+◌, List, ℕ, ◌∷◌, take}
use Rattle.std.specs.Prelude.{All, ◌≢◌}
use Rattle.rating_tables.specs.Rdb.{fields_from}
use Rattle.rating_tables.proofs.LineTextLemmas.{rest_whole}
use Rattle.rating_tables.proofs.FieldLemmas.{found_tab, found_no_tab}
use Rattle.rdb_records.proofs.fields.cut_field.Goals as goal

pub returns-in-Some-clause-fields : goal.returns-in-Some-clause-fields
returns-in-Some-clause-fields c =
    (found_tab c.args.text.now c.in-Some.end c.requires c.in-Some.ensures).0
    ∙ ap (λ (t : List ℕ). take c.in-Some.end c.args.text.now ∷ fields_from t) (sym (rest_whole (c.in-Some.end + 1) c.args.text.now))

pub returns-in-Some-clause-feeds : goal.returns-in-Some-clause-feeds
returns-in-Some-clause-feeds c =
    subst (All (λ b. b ≢ 10)) (sym (rest_whole (c.in-Some.end + 1) c.args.text.now)) (found_tab c.args.text.now c.in-Some.end c.requires c.in-Some.ensures).1

pub returns-in-None-clause-fields : goal.returns-in-None-clause-fields
returns-in-None-clause-fields c = found_no_tab c.args.text.now c.requires c.in-None.ensures
