use Rattle.std.proofs.Common.{◌∙◌}
use Rattle.station_documents.proofs.MemberLemmas.{keys-all}
use Rattle.station_documents.proofs.stations.has_station_keys_alone.Goals as goal
use Rattle.station_documents.specs.Stations.{is_station_key}

pub returns : goal.returns
returns c = c.are_station_keys.ensures ∙ keys-all is_station_key c.args.table.now.entries
