-- The parts stand one behind another.
use Rattle.std.proofs.Common.{codes, decimal, length}
use Rattle.std.proofs.lemmas.Result.{on_ok_weaker}
use Rattle.ledger.proofs.JoinLemmas.{four_joined}
use Rattle.ledger.proofs.requests.write_posted.Goals as goal

pub returns : goal.returns
returns c =
    on_ok_weaker c.push_slice-3.result
    (four_joined c.args.out.now c.push_slice.new.self c.push_number.new.self c.push_slice-2.new.self c.push_slice-3.new.self
    (codes "POST /edits HTTP/1.1\r\nContent-Length: ") (decimal (length c.args.body.now)) (codes "\r\n\r\n") c.args.body.now
    c.in_ok-push_slice.ensures.ok c.in_ok-push_number.ensures.ok c.in_ok-push_slice-2.ensures.ok)
    c.push_slice-3.ensures.ok
