use Rattle.std.proofs.Common.{codes, decimal}
use Rattle.std.proofs.lemmas.Result.{on_ok_weaker}
use Rattle.http_api.proofs.TextLemmas.{numbers_joined}
use Rattle.http_api.proofs.replies.write_turned.Goals as goal

pub returns-clause-ok : goal.returns-clause-ok
returns-clause-ok c =
    on_ok_weaker c.push_slice.result
    (numbers_joined c.args.out.now (codes "{\"pending\":") (decimal c.args.pending) (codes ",\"published\":") (decimal c.args.published) (codes "}")
    c.write_number.new.out c.write_number-2.new.out c.push_slice.new.self c.in_ok-write_number.ensures.ok c.in_ok-write_number-2.ensures.ok)
    c.push_slice.ensures.ok
