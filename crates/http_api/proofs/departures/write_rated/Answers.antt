use Rattle.std.proofs.Common.{codes}
use Rattle.std.proofs.lemmas.Result.{on_ok_weaker}
use Rattle.http_api.proofs.TextLemmas.{numbers_joined}
use Rattle.http_api.proofs.departures.write_rated.Goals as goal
use Rattle.http_api.specs.JsonTexts.{micro_or_null}

pub returns-clause-ok : goal.returns-clause-ok
returns-clause-ok c =
    on_ok_weaker c.push_slice.result
    (numbers_joined c.args.out.now (codes "\",\"indicated_shift\":") (micro_or_null c.args.indicated) (codes ",\"rated\":") (micro_or_null c.args.rated) (codes "}")
    c.write_quantity.new.out c.write_quantity-2.new.out c.push_slice.new.self c.in_ok-write_quantity.ensures.ok c.in_ok-write_quantity-2.ensures.ok)
    c.push_slice.ensures.ok
