use Rattle.std.proofs.Common.{◌≡◌, Err, rules}
use Rattle.station_documents.proofs.AnswerLemmas.{part_refused}
use Rattle.station_documents.proofs.stations.station_in.Goals as goal
use Rattle.station_documents.specs.Stations.{StatesAddition, StatesStation}
use Rattle.toml.specs.View.{table_view}

pub returns-in_err-what : goal.returns-in_err-what
returns-in_err-what c =
    let same : c.from_residual.result ≡ Err c.in_err-what.field-0.0 = search rules in
    let table = table_view c.args.table.now in
    rw same (part_refused (StatesAddition table) (StatesStation c.args.by.now table) c.in_err-what.field-0.0 (λ edit stated. (edit.what, stated.what)) c.in_err-what.ensures)
