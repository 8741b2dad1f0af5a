use Rattle.edit_bodies.proofs.MemberLemmas.{taken}
use Rattle.edit_bodies.proofs.TextLemmas.{ok_or-each}
use Rattle.edit_bodies.proofs.grammars.take_gap.Goals as goal
use Rattle.edit_bodies.specs.Grammars.{gap_of}
use Rattle.edit_bodies.specs.Trees.{left}
use Rattle.edit_bodies.specs.declared.members.Member.TheVariants.{Gap}
use Rattle.edits.specs.Lawful.{IsGap}

pub returns-clause-read : goal.returns-clause-read
returns-clause-read c =
    rw c.ok_or.ensures.value (taken Gap gap_of (left c.args.fields.now) (left c.remove.new.fields) c.remove.ensures c.gap_at-found.result c.gap_at-found.ensures.value)

pub returns-clause-near : goal.returns-clause-near
returns-clause-near c = rw c.ok_or.ensures.value (ok_or-each IsGap c.gap_at-found.result _ c.gap_at-found.ensures.near)
