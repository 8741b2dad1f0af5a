-- A comment that is not empty has its member.
use Rattle.std.proofs.Common.{◌≡◌, ◌==◌, ◌++◌, ◌∙◌, false, List, ℕ, ap, sym, length, codes}
use Rattle.std.proofs.lemmas.Result.{on_ok_weaker}
use Rattle.json.specs.Print.{quoted}
use Rattle.ledger.proofs.JoinLemmas.{commented, joined}
use Rattle.ledger.proofs.requests.write_comment.Goals as goal

pub returns : goal.returns
returns c =
    let some : (length c.args.comment.now == 0) ≡ false = sym c.is_empty.ensures ∙ c.if-is_empty.false in
    on_ok_weaker c.write_quoted.result
    (λ told. joined c.args.out.now c.push_slice.new.self c.write_quoted.new.out (codes ",\"comment\":") (quoted c.args.comment.now) c.in_ok-push_slice.ensures.ok told
    ∙ ap (λ (l : List ℕ). c.args.out.now ++ l) (commented c.args.comment.now some))
    c.write_quoted.ensures
