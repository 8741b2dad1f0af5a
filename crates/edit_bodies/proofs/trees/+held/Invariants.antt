use Rattle.std.proofs.Common.{◌≡◌, drop, length}
use Rattle.edit_bodies.proofs.trees.+held.Given as goal
use Rattle.edit_bodies.specs.Trees.{are_items_held, are_members_held}
use Rattle.json.specs.Tree.{json_tokens, items_tokens, members_tokens}
use Rattle.json.specs.Value.{value_view, items_view, members_view}

abbrev pub decreases-is_held : goal.decreases-is_held
decreases-is_held l = length (json_tokens (value_view l.tree.now))

abbrev pub decreases-are_items_held : goal.decreases-are_items_held
decreases-are_items_held l = length (items_tokens (items_view l.items.now.items))

abbrev pub decreases-are_members_held : goal.decreases-are_members_held
decreases-are_members_held l = length (members_tokens (members_view l.members.now.items))

abbrev pub invariant-are_items_held-loop-item : goal.invariant-are_items_held-loop-item
invariant-are_items_held-loop-item l = are_items_held (items_view (drop l.item-index l.item-items)) ≡ are_items_held (items_view l.item-items)

abbrev pub invariant-are_members_held-loop-member : goal.invariant-are_members_held-loop-member
invariant-are_members_held-loop-member l = are_members_held (members_view (drop l.member-index l.member-items)) ≡ are_members_held (members_view l.member-items)
