use Rattle.std.proofs.Common.{◌≡◌, true, false, sym, ◌∙◌, arith}
use Rattle.edit_bodies.proofs.TreeLemmas.{of_json-held, of_json-not_held}
use Rattle.edit_bodies.proofs.trees.read_tree.Goals as goal
use Rattle.json.specs.Value.{value_view}

pub returns-then-not-is_held-clause-invalid : goal.returns-then-not-is_held-clause-invalid
returns-then-not-is_held-clause-invalid c _ =
    let no : c.is_held.result ≡ false = grind arith in
    c.in_ok-tree.ensures.tree ∙ of_json-not_held (value_view c.in_ok-tree.tree) (sym c.is_held.ensures ∙ no)

pub returns-clause-tree : goal.returns-clause-tree
returns-clause-tree c =
    let yes : c.is_held.result ≡ true = grind arith in
    c.in_ok-tree.ensures.tree ∙ of_json-held (value_view c.in_ok-tree.tree) (sym c.is_held.ensures ∙ yes)
