use Rattle.std.proofs.Common.{◌≡◌, Ok, IfOk, sym, ap, ◌∙◌, subst}
use Rattle.edit_bodies.proofs.AnswerLemmas.{no_text, of_text}
use Rattle.edit_bodies.proofs.bodies.read_edit.Goals as goal
use Rattle.edit_bodies.specs.Bodies.{edit_of_value, parts}
use Rattle.serde_json.specs.Read.{read}

pub returns-in_default-clause-json : goal.returns-in_default-clause-json
returns-in_default-clause-json c _ = no_text c.args.body.now c.in_default.ensures.cases.0

pub returns-in-Some-clause-edit : goal.returns-in-Some-clause-edit
returns-in-Some-clause-edit c =
    of_text c.args.body.now c.in-Ok.ensures.cases.1 ∙ ap (λ text. edit_of_value (read text)) (sym c.in-Ok.ensures.cases.0) ∙ c.in-Some.ensures

pub returns-in-None-clause-edit : goal.returns-in-None-clause-edit
returns-in-None-clause-edit c =
    let same = of_text c.args.body.now c.in-Ok.ensures.cases.1 ∙ ap (λ text. edit_of_value (read text)) (sym c.in-Ok.ensures.cases.0) in
    subst (λ r. IfOk c.edit_of_tokens.result (λ edit. r ≡ Ok (parts edit))) (sym same) c.edit_of_tokens.ensures.edit

pub returns-in-None-clause-json : goal.returns-in-None-clause-json
returns-in-None-clause-json c is =
    of_text c.args.body.now c.in-Ok.ensures.cases.1 ∙ ap (λ text. edit_of_value (read text)) (sym c.in-Ok.ensures.cases.0) ∙ c.edit_of_tokens.ensures.json is

pub returns-in-None-clause-member : goal.returns-in-None-clause-member
returns-in-None-clause-member c which is =
    of_text c.args.body.now c.in-Ok.ensures.cases.1 ∙ ap (λ text. edit_of_value (read text)) (sym c.in-Ok.ensures.cases.0) ∙ c.edit_of_tokens.ensures.member which is
