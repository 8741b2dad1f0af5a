use Rattle.std.proofs.Common.{◌∙◌, ap, not, bytes_eq, rules}
use Rattle.std.proofs.lemmas.Fn.{filter_same}
use Rattle.edit_bodies.proofs.FieldLemmas.{members_stated-filter}
use Rattle.edit_bodies.proofs.members.remove_each.Goals as goal
use Rattle.edit_bodies.specs.Members.{without}
use Rattle.edit_bodies.specs.Trees.{Field, left, members_stated}

pub returns : goal.returns
returns c =
    ap members_stated (filter_same _ (λ (f : Field). not (bytes_eq f.0.now c.text-name.result.now)) _ (λ x b f' k. search rules) _ _ c.retain.ensures.filtered)
    ∙ members_stated-filter c.text-name.result.now c.args.fields.now.items ∙ ap (λ n. without n (left c.args.fields.now)) c.text-name.ensures
