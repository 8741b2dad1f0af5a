-- Whether a body is read as an edit.
use Rattle.std.proofs.Common.{◌≡◌, ◌↔◌, ◌<◌, List, ℕ, length, Bool, true, false, Result, Ok, Err, refl, ap, sym, subst, ◌∙◌}
use Rattle.std.proofs.lemmas.Bool.{false≢true}
use Rattle.edit_bodies.specs.Bodies.{Parts, edit_of, parts}
use Rattle.edit_bodies.specs.declared.faults.BodyFault.{BodyFault}
use Rattle.edits.proofs.EditLemmas.{same_edit}
use Rattle.edits.specs.declared.content.Edit.{Edit}
use Rattle.ledger.specs.Requests.{IsReadBack, body_text, most_body}
use Rattle.ledger.specs.Runs.{IsNoText}
use Rattle.ledger.specs.declared.runs.RunEnd.TheVariants.{TooLarge, NotReadBack}

abbrev value : Parts → Result Parts BodyFault
value p = Ok p

same_value : (a b : Parts) → value a ≡ value b → a ≡ b
same_value a b e = cc

-- edits of the same parts are the same
same_parts : (a b : Edit) → parts a ≡ parts b → a ≡ b
same_parts a b e =
    same_edit a b (ap (λ (p : Parts). p.by) e) (ap (λ (p : Parts). p.reference) e) (ap (λ (p : Parts). p.site) e) (ap (λ (p : Parts). p.comment) e) (ap (λ (p : Parts). p.what) e)

pub found_back : (body : List ℕ) (found edit : Edit) (same : Bool) → edit_of body ≡ Ok (parts found) → same ≡ true ↔ found ≡ edit → same ≡ true ↔ edit_of body ≡ Ok (parts edit)
found_back body found edit same is told = (
  λ e. is ∙ ap (λ (x : Edit). value (parts x)) (told.0 e),
  λ e. told.1 (same_parts found edit (same_value (parts found) (parts edit) (sym is ∙ e))),
)

pub not_back : (body : List ℕ) (edit : Edit) (fault : BodyFault) → edit_of body ≡ Err fault → false ≡ true ↔ edit_of body ≡ Ok (parts edit)
not_back body edit fault is = (λ e. absurd (false≢true e), λ e. absurd (let both = sym is ∙ e in cc))

-- ---- why there is no request

pub too_large : (number : ℕ) (edit : Edit) (body : List ℕ) (len : ℕ) → len ≡ length body → body ≡ body_text edit → most_body < len → IsNoText (TooLarge number) number edit
too_large number edit body len counted is large = (refl, subst (λ (n : ℕ). most_body < n) (counted ∙ ap length is) large)

pub read_differs : (number : ℕ) (edit : Edit) (body slice : List ℕ) (back : Bool) → slice ≡ body → body ≡ body_text edit → back ≡ false → back ≡ true ↔ edit_of slice ≡ Ok (parts edit)
    → IsNoText (NotReadBack number) number edit
read_differs number edit body slice back same is differs told =
    (refl, λ (h : IsReadBack edit). false≢true (sym differs ∙ told.1 (ap edit_of (same ∙ is) ∙ h)))

pub read_back : (edit : Edit) (body slice : List ℕ) (back : Bool) → slice ≡ body → body ≡ body_text edit → back ≡ true → back ≡ true ↔ edit_of slice ≡ Ok (parts edit) → IsReadBack edit
read_back edit body slice back same is holds told = ap edit_of (sym (same ∙ is)) ∙ told.0 holds
