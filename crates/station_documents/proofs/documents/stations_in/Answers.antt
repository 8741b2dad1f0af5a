use Rattle.std.proofs.Common.{◌≡◌, ◌≤◌, ◌∙◌, true, length, List, sym, subst, arith}
use Rattle.std.proofs.lemmas.Grind.{common_steps}
use Rattle.station_documents.proofs.AnswerLemmas.{counted, document_answered}
use Rattle.station_documents.proofs.documents.stations_in.Goals as goal
use Rattle.station_documents.specs.Answers.{AreRead}
use Rattle.station_documents.specs.Documents.{StatesEach, is_document_key, most_stations}
use Rattle.station_documents.specs.Members.{all_keys}
use Rattle.toml.specs.View.{items_view, table_view}
use Rattle.toml.specs.declared.value.Value.{Value}

pub returns-then-not-contains : goal.returns-then-not-contains
returns-then-not-contains c =
    λ edits stated. let within = counted (table_view c.args.table.now) c.in-Some.by c.in-Some-array_at.stations.now.items (sym c.in-Some-array_at.ensures) edits stated in
    grind (arith, common_steps, within.0, within.1)

pub returns : goal.returns
returns c =
    let stations = c.in-Some-array_at.stations.now.items in
    let alone : all_keys is_document_key (table_view c.args.table.now) ≡ true = sym c.has_document_keys_alone.ensures ∙ c.if-not-has_document_keys_alone.false in
    let fewest : 1 ≤ length stations = grind (arith, common_steps) in
    let most : length stations ≤ most_stations = grind (arith, common_steps) in
    let each = subst (λ (vs : List Value). AreRead (StatesEach c.in-Some.by (items_view vs)) c.each_station.result) c.deref.ensures.value c.each_station.ensures in
    document_answered (table_view c.args.table.now) c.in-Some.by stations (sym c.in-Some-array_at.ensures) c.each_station.result alone c.in-Some.ensures fewest most each
