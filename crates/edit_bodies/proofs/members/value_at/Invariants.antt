use Rattle.std.proofs.Common.{◌≡◌, take, option_map}
use Rattle.edit_bodies.proofs.members.value_at.Given as goal
use Rattle.edit_bodies.specs.Trees.{members_stated, stated}
use Rattle.serde_json.specs.Find.{get_member}

abbrev pub invariant-loop-field : goal.invariant-loop-field
invariant-loop-field l = option_map (λ value. stated value.now) l.found ≡ get_member l.name (members_stated (take l.field-index l.field-items))
