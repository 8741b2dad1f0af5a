use Rattle.std.proofs.Common.{◌≡◌, length, rules}
use Rattle.edit_bodies.proofs.FieldLemmas.{none_left}
use Rattle.edit_bodies.proofs.members.is_none_left.Goals as goal

pub returns : goal.returns
returns c =
    let count : length c.args.fields.now.items ≡ c.args.fields.now.len = search rules in
    none_left c.is_empty.result c.args.fields.now.len c.args.fields.now.items count c.is_empty.ensures
