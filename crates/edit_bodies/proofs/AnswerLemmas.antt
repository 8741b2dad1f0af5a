-- From the members of an object to what is answered for the body.
use Rattle.std.proofs.Common.{◌≡◌, ℕ, Bool, true, false, List, Option, Some, None, Result, Ok, Err, IfOk, if◌then◌else◌, refl, ap, ◌∙◌, subst}
use Rattle.std.proofs.lemmas.Str.{IsUtf8-from_is_utf8, is_utf8-from_IsUtf8}
use Rattle.std.specs.Str.{IsUtf8, is_utf8}
use Rattle.edit_bodies.specs.Answers.{IsMade}
use Rattle.edit_bodies.specs.Bodies.{Parts, parts, value_of, edit_of, edit_of_value, edit_in, refused}
use Rattle.edit_bodies.specs.declared.faults.BodyFault.{BodyFault}
use Rattle.edit_bodies.specs.declared.faults.BodyFault.TheVariants.{Json, Body}
use Rattle.edit_bodies.specs.declared.members.Member.{Member}
use Rattle.edits.specs.declared.content.Edit.{Edit}
use Rattle.serde_json.specs.Data.{Data, Members}
use Rattle.serde_json.specs.Find.{as_object}
use Rattle.serde_json.specs.Read.{read}

-- the edit of a body in UTF-8 is that of its value
module _ (body : List ℕ) where
  by_text : (text : Bool) → text ≡ true → edit_of_value (if text then read body else None) ≡ edit_of_value (read body)
  by_text true e = refl
  by_text false e = absurd cc

  pub of_text : IsUtf8 body → edit_of body ≡ edit_of_value (read body)
  unfolding edit_of value_of
  of_text text = by_text (is_utf8 body) (is_utf8-from_IsUtf8 body text)

  no_text_by : (text : Bool) → (text ≡ true → IsUtf8 body) → ¬ (IsUtf8 body) → edit_of_value (if text then read body else None) ≡ Err Json
  no_text_by true is not = absurd (not (is refl))
  no_text_by false is not = refl

  pub no_text : ¬ (IsUtf8 body) → edit_of body ≡ Err Json
  unfolding edit_of value_of
  no_text not = no_text_by (is_utf8 body) (IsUtf8-from_is_utf8 body) not

-- the edit of a value that is read
module _ (read : Option Data) where
  pub of_value : (value : Data) (members : Option Members) → read ≡ Some value → as_object value ≡ members → edit_of_value read ≡ refused (edit_in members)
  of_value value members e is = ap edit_of_value e ∙ ap (λ (o : Option Members). refused (edit_in o)) is

  module _ (found : Result Parts Member) (result : Result Edit BodyFault) (e : edit_of_value read ≡ refused found) (made : IsMade found result) where
    pub edit_told : IfOk result (λ edit. edit_of_value read ≡ Ok (parts edit))
    edit_told = by result made
      where
        by : (result : Result Edit BodyFault) → IsMade found result → IfOk result (λ edit. edit_of_value read ≡ Ok (parts edit))
        by (Ok edit) made = e ∙ ap refused made
        by (Err fault) made = tt

    pub json_told : result ≡ Err Json → edit_of_value read ≡ Err Json
    json_told is = absurd (subst (λ r. IsMade found r) is made)

    pub member_told : (which : Member) → result ≡ Err (Body which) → edit_of_value read ≡ Err (Body which)
    member_told which is = e ∙ ap refused (subst (λ r. IsMade found r) is made)
