use Rattle.edit_bodies.proofs.MemberLemmas.{taken}
use Rattle.edit_bodies.proofs.TextLemmas.{ok_or-each}
use Rattle.edit_bodies.proofs.grammars.take_set.Goals as goal
use Rattle.edit_bodies.specs.Grammars.{set_of}
use Rattle.edit_bodies.specs.Trees.{left}
use Rattle.edit_bodies.specs.declared.members.Member.TheVariants.{Set}
use Rattle.edits.specs.Lawful.{IsSetNumber}

pub returns-clause-read : goal.returns-clause-read
returns-clause-read c =
    rw c.ok_or.ensures.value (taken Set set_of (left c.args.fields.now) (left c.remove.new.fields) c.remove.ensures c.set_at-found.result c.set_at-found.ensures.value)

pub returns-clause-number : goal.returns-clause-number
returns-clause-number c = rw c.ok_or.ensures.value (ok_or-each IsSetNumber c.set_at-found.result _ c.set_at-found.ensures.number)
