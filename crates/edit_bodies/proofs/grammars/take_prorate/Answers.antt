use Rattle.edit_bodies.proofs.MemberLemmas.{taken}
use Rattle.edit_bodies.proofs.grammars.take_prorate.Goals as goal
use Rattle.edit_bodies.specs.Trees.{left}
use Rattle.edit_bodies.specs.declared.members.Member.TheVariants.{Prorate}
use Rattle.serde_json.specs.Find.{as_bool}

pub returns : goal.returns
returns c =
    rw c.ok_or.ensures.value (taken Prorate as_bool (left c.args.fields.now) (left c.remove.new.fields) c.remove.ensures c.prorate_at-found.result c.prorate_at-found.ensures)
