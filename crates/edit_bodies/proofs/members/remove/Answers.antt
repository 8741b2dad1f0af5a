-- The first of them is taken out, and where one is left all others are.
use Rattle.std.proofs.Common.{◌∙◌, ap, sym, is_some}
use Rattle.edit_bodies.proofs.FieldLemmas.{none_found, without-found}
use Rattle.edit_bodies.proofs.members.remove.Goals as goal
use Rattle.edit_bodies.specs.Members.{member_text}

pub returns-in_default : goal.returns-in_default
returns-in_default c =
    none_found (member_text c.args.member) c.args.fields.now.items c.place_of.result c.place_of.ensures (ap is_some c.in_default.is)

pub returns-then-is_some : goal.returns-then-is_some
returns-then-is_some c =
    c.remove_each.ensures
    ∙ without-found (member_text c.args.member) c.args.fields.now.items c.remove-field.new.self.items c.place_of.result c.in-Some.place c.place_of.ensures
    c.in-Some.is c.remove-field.ensures.items

pub returns : goal.returns
returns c =
    none_found (member_text c.args.member) c.remove-field.new.self.items c.place_of-2.result c.place_of-2.ensures (sym c.is_some.ensures ∙ c.if-is_some.false)
    ∙ without-found (member_text c.args.member) c.args.fields.now.items c.remove-field.new.self.items c.place_of.result c.in-Some.place c.place_of.ensures
    c.in-Some.is c.remove-field.ensures.items
