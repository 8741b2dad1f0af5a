use Rattle.std.proofs.Common.{codes}
use Rattle.std.proofs.lemmas.Result.{on_ok_weaker}
use Rattle.http_api.proofs.TextLemmas.{texts_joined}
use Rattle.http_api.proofs.stations.write_zone.Goals as goal

pub returns-clause-ok : goal.returns-clause-ok
returns-clause-ok c =
    on_ok_weaker c.push_slice-2.result
    (texts_joined c.args.out.now (codes "\",\"stage_array\":\"") c.stage_array.result.now c.args.station.now.station.stage_array
    (codes "\",\"zone\":") c.zone_text.result.now c.args.station.now.station.zone (codes "}") c.write_array.new.out c.push_slice.new.self
    c.write_quoted.new.out c.push_slice-2.new.self c.stage_array.ensures c.zone_text.ensures c.in_ok-write_array.ensures.ok
    c.in_ok-push_slice.ensures.ok c.in_ok-write_quoted.ensures.ok)
    c.push_slice-2.ensures.ok
