-- The parts stand one behind another.
use Rattle.std.proofs.Common.{codes}
use Rattle.std.proofs.lemmas.Result.{on_ok_weaker}
use Rattle.ledger.specs.Figures.{figures_text}
use Rattle.ledger.specs.Requests.{comment_member, kind_members, sender_members}
use Rattle.ledger.specs.declared.figures.Style.TheVariants.{OfABody}
use Rattle.ledger.proofs.JoinLemmas.{five_joined}
use Rattle.ledger.proofs.requests.write_body.Goals as goal

pub returns : goal.returns
returns c =
    let edit = c.args.edit.now in
    on_ok_weaker c.push.result
    (five_joined c.args.out.now c.write_kind.new.out c.write_sender.new.out c.write_figures.new.out c.write_comment.new.out c.push.new.self
    (kind_members edit) (sender_members edit) (figures_text OfABody edit.what) (comment_member edit.comment) (codes "}")
    c.in_ok-write_kind.ensures c.in_ok-write_sender.ensures c.in_ok-write_figures.ensures (rw c.as_slice.ensures.codes at c.in_ok-write_comment.ensures))
    c.push.ensures.ok
