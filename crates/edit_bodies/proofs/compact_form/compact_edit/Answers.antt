use Rattle.std.proofs.Common.{◌≡◌, Ok, IfSome, sym, subst}
use Rattle.edit_bodies.proofs.compact_form.compact_edit.Goals as goal
use Rattle.edit_bodies.specs.Bodies.{edit_of_value, parts}
use Rattle.serde_json.specs.Read.{read}

pub returns-in-Some : goal.returns-in-Some
returns-in-Some c =
    subst (λ text. IfSome c.put_behind.result (λ edit. edit_of_value (read text) ≡ Ok (parts edit))) (sym c.in-Some.ensures.parts) c.put_behind.ensures

pub returns-in_ok-behind-in-None : goal.returns-in_ok-behind-in-None
returns-in_ok-behind-in-None c =
    subst (λ text. IfSome c.review_behind.result (λ edit. edit_of_value (read text) ≡ Ok (parts edit))) (sym c.in_ok-behind-in-None.ensures.parts) c.review_behind.ensures
