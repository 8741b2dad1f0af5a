use Rattle.std.proofs.Common.{◌≡◌, None, Err, sym, ap, ◌∙◌, rules}
use Rattle.edit_bodies.proofs.AnswerLemmas.{of_value, edit_told, json_told, member_told}
use Rattle.edit_bodies.proofs.bodies.edit_of_tree.Goals as goal
use Rattle.edit_bodies.specs.Bodies.{edit_of_value}
use Rattle.edit_bodies.specs.Trees.{stated}
use Rattle.edit_bodies.specs.declared.faults.BodyFault.TheVariants.{Json, Body}
use Rattle.edit_bodies.specs.declared.members.Member.TheVariants.{Kind}
use Rattle.serde_json.specs.Read.{read}

pub returns-in_err-value-clause-json : goal.returns-in_err-value-clause-json
returns-in_err-value-clause-json c is =
    let same : c.from_residual.result ≡ Err c.in_err-value.field-0.0 = search rules in
    let e = sym same ∙ is in
    let why : c.in_err-value.field-0.0 ≡ Json = cc in
    ap edit_of_value (c.in_err-value.ensures.json (ap Err why))

pub returns-in_err-value-clause-member : goal.returns-in_err-value-clause-member
returns-in_err-value-clause-member c which is =
    let same : c.from_residual.result ≡ Err c.in_err-value.field-0.0 = search rules in
    let e = sym same ∙ is in
    let why : c.in_err-value.field-0.0 ≡ Body which = cc in
    absurd (c.in_err-value.ensures.only which (ap Err why))

pub returns-in_default-clause-member : goal.returns-in_default-clause-member
returns-in_default-clause-member c which is =
    let named : Kind ≡ which = cc in
    of_value (read c.args.text.now) (stated c.in_ok-value.value) None c.in_ok-value.ensures.value (sym c.in_default.ensures) ∙ ap (λ m. Err (Body m)) named

pub returns-clause-edit : goal.returns-clause-edit
returns-clause-edit c =
    edit_told (read c.args.text.now) _ c.edit_from.result (of_value (read c.args.text.now) (stated c.in_ok-value.value) _ c.in_ok-value.ensures.value (sym c.in-Some.ensures)) c.edit_from.ensures

pub returns-clause-json : goal.returns-clause-json
returns-clause-json c =
    json_told (read c.args.text.now) _ c.edit_from.result (of_value (read c.args.text.now) (stated c.in_ok-value.value) _ c.in_ok-value.ensures.value (sym c.in-Some.ensures)) c.edit_from.ensures

pub returns-clause-member : goal.returns-clause-member
returns-clause-member c =
    member_told (read c.args.text.now) _ c.edit_from.result (of_value (read c.args.text.now) (stated c.in_ok-value.value) _ c.in_ok-value.ensures.value (sym c.in-Some.ensures)) c.edit_from.ensures
