use Rattle.edit_bodies.proofs.MemberLemmas.{text_taken}
use Rattle.edit_bodies.proofs.grammars.take_text.Goals as goal
use Rattle.edit_bodies.specs.Trees.{left}

pub returns : goal.returns
returns c = rw c.ok_or.ensures.value (text_taken c.args.member (left c.args.fields.now) (left c.remove.new.fields) c.remove.ensures c.text_at-found.result c.text_at-found.ensures)
