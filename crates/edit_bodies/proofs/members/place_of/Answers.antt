-- Field by field.
use Rattle.std.proofs.Common.{◌≡◌, true, false, rules, subst}
use Rattle.std.proofs.lemmas.Iterator.{YieldsList-from_slice, IsFirst-from_position}
use borrow.Author.Tests.{tests}
use Rattle.edit_bodies.proofs.FieldLemmas.{first_place}
use Rattle.edit_bodies.proofs.members.place_of.Goals as goal
use Rattle.edit_bodies.specs.Trees.{Field, IsFirstPlace, is_named}

pub returns : goal.returns
returns c =
    subst (λ name. IsFirstPlace name c.args.fields.now.items c.position.result) c.text-name.ensures
    (first_place c.text-name.result.now c.args.fields.now.items c.position.result
    (IsFirst-from_position _ _ _ (λ (f : Field). is_named c.text-name.result.now f ≡ true) (λ (f : Field). is_named c.text-name.result.now f ≡ false) c.position.ensures.ran
    (YieldsList-from_slice c.args.fields.now.items cc)
    (λ x q k. search (rules, tests)) (λ x q k. search (rules, tests))))
