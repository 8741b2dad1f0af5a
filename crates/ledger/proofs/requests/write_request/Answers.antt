-- The settlement stands before the request of the body, which is read as the edit.
use Rattle.std.proofs.Common.{◌++◌, ◌∙◌, List, ℕ, ap}
use Rattle.ledger.specs.Requests.{body_text, posted, settlement}
use Rattle.ledger.proofs.JoinLemmas.{joined}
use Rattle.ledger.proofs.ReadLemmas.{read_back, read_differs, too_large}
use Rattle.ledger.proofs.requests.write_request.Goals as goal

pub returns-then-len-gt-MOST_BODY-clause-none : goal.returns-then-len-gt-MOST_BODY-clause-none
returns-then-len-gt-MOST_BODY-clause-none c =
    too_large c.args.number c.args.edit.now c.in_ok-body.body c.len.result c.len.ensures c.in_ok-body.ensures c.if-len-gt-MOST_BODY.true

pub returns-then-not-branch-clause-none : goal.returns-then-not-branch-clause-none
returns-then-not-branch-clause-none c =
    read_differs c.args.number c.args.edit.now c.in_ok-body.body c.as_slice.result.now _ c.as_slice.ensures c.in_ok-body.ensures c.if-not-branch.true c.in_ok-is_read_back.ensures

pub returns-clause-text : goal.returns-clause-text
returns-clause-text c =
    let body = c.as_slice-2.ensures ∙ c.in_ok-body.ensures in
    joined c.args.out.now c.write_settlement.new.out c.write_posted.new.out (settlement c.args.edit.now.what) (posted (body_text c.args.edit.now))
    c.in_ok-write_settlement.ensures (c.in_ok-write_posted.ensures ∙ ap (λ (l : List ℕ). c.write_settlement.new.out ++ posted l) body)

pub returns-clause-meant : goal.returns-clause-meant
returns-clause-meant c =
    read_back c.args.edit.now c.in_ok-body.body c.as_slice.result.now _ c.as_slice.ensures c.in_ok-body.ensures c.if-not-branch.false c.in_ok-is_read_back.ensures
