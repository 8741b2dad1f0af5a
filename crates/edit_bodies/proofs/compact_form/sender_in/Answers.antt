use Rattle.std.proofs.Common.{◌++◌, codes, ap, ◌∙◌}
use Rattle.edit_bodies.proofs.compact_form.sender_in.Goals as goal
use Rattle.json.specs.Print.{quoted}

pub returns : goal.returns
returns c =
    c.in_ok-by.ensures.spelled ∙ ap (λ l. quoted c.in_ok-by.by.now ++ l)
    (c.in_ok-reference.ensures ∙ ap (λ l. codes ",\"ref\":" ++ (quoted c.in_ok-reference.reference.now ++ l)) c.in_ok-site.ensures)
