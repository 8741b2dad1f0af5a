use Rattle.std.proofs.Common.{◌≡◌, ◌∷◌, ◌++◌, ◌+◌, [], take, Err, ap, ◌∙◌, sym, rules}
use Rattle.std.proofs.lemmas.List.{take_more}
use Rattle.station_documents.proofs.AnswerLemmas.{each_more, edit_at, item_refused}
use Rattle.station_documents.proofs.documents.each_station.Goals as goal
use Rattle.station_documents.specs.Documents.{StatesEach, StatesTable}
use Rattle.toml.specs.Data.{as_table}
use Rattle.toml.specs.View.{items_view, view}
use Rattle.toml.specs.declared.value.Value.{Value}

pub returns-in_err-edit : goal.returns-in_err-edit
returns-in_err-edit c =
    let same : c.from_residual-in_err-edit.result ≡ Err c.in_err-edit.field-0.0 = search rules in
    rw same (item_refused (StatesTable c.args.by.now (as_table (view c.station-item.result))) (StatesEach c.args.by.now (items_view c.args.stations.now)) c.in_err-edit.field-0.0
    (edit_at c.args.by.now c.args.stations.now c.loop-station.station-index c.station-item.result c.loop-station-test.true c.station-item.is)
    c.in_err-edit.ensures)

pub loop-station-preserved : goal.loop-station-preserved
loop-station-preserved c =
    let front = take c.loop-station.station-index c.args.stations.now in
    let more : take (c.loop-station.station-index + 1) c.args.stations.now ≡ front ++ c.station-item.result ∷ [] =
    take_more c.args.stations.now c.loop-station.station-index c.station-item.result c.loop-station-test.true ∙ ap (λ (w : Value). front ++ w ∷ []) (sym c.station-item.is) in
    rw (more, c.in-Ok.ensures.items) (each_more c.args.by.now front c.loop-station.edits.items c.station-item.result c.in_ok-edit.edit c.loop-station.invariant c.in_ok-edit.ensures)
