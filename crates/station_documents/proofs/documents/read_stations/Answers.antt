use Rattle.std.proofs.Common.{◌≡◌, ◌∙◌, ap, sym, rules}
use Rattle.station_documents.proofs.AnswerLemmas.{text_refused}
use Rattle.station_documents.proofs.documents.read_stations.Goals as goal
use Rattle.toml.specs.Parse.{parse_document}
use Rattle.toml.specs.View.{table_view}

pub returns-clause-none : goal.returns-clause-none
returns-clause-none c =
    let same : c.in-Ok.text.now ≡ c.args.bytes.now = search rules in
    text_refused c.args.bytes.now (table_view c.in_ok-table.table) c.stations_in.result (ap parse_document (sym same) ∙ c.in_ok-table.ensures.table) c.stations_in.ensures
