use Rattle.std.proofs.Common.{sym, subst, IfSome}
use Rattle.edit_bodies.proofs.MemberLemmas.{taken}
use Rattle.edit_bodies.proofs.PointLemmas.{points-put}
use Rattle.edit_bodies.proofs.TextLemmas.{ok_or-each}
use Rattle.edit_bodies.proofs.curve_points.take_points.Goals as goal
use Rattle.edit_bodies.specs.Grammars.{points_of}
use Rattle.edit_bodies.specs.Members.{member_text}
use Rattle.edit_bodies.specs.Trees.{left}
use Rattle.edit_bodies.specs.declared.members.Member.TheVariants.{Points}
use Rattle.edits.specs.Lawful.{IsPutCurve}
use Rattle.serde_json.specs.Find.{get_member}

pub returns-clause-read : goal.returns-clause-read
returns-clause-read c =
    rw c.ok_or.ensures.value (taken Points points_of (left c.args.fields.now) (left c.remove.new.fields) c.remove.ensures c.curve_at-found.result c.curve_at-found.ensures)

pub returns-clause-put : goal.returns-clause-put
returns-clause-put c =
    rw c.ok_or.ensures.value (ok_or-each IsPutCurve c.curve_at-found.result _ (subst (λ o. IfSome o IsPutCurve) (sym c.curve_at-found.ensures) (points-put (get_member (member_text Points) (left c.args.fields.now)))))
