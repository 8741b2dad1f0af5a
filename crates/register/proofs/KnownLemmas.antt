-- What it says of an edit that its reference names an accepted one, or none.
use Rattle.std.specs.Prelude.{◌≡◌, ℕ, if◌then◌else◌, List, Option, Some, option_map}
use Rattle.std.proofs.Common.{ap, sym, ◌∙◌}
use Rattle.edits.specs.Same.{is_same}
use Rattle.edits.specs.declared.content.Edit.{Edit}
use Rattle.history.specs.Accepted.{Numbered, edits_of, named}
use Rattle.history.specs.Events.{History}
use Rattle.history.specs.Verdicts.{Refuses, Repeats, refusal_of, verdict, verdict_by}
use Rattle.office_inputs.specs.declared.refusals.Refusal.TheVariants.{RefReused}

module _ {X : Type 0} (f : X → Numbered) (found : Option X) (h : History) (edit : Edit) (own : List ℕ) (same : own ≡ edit.reference)
    (told : option_map f found ≡ named (edits_of h.events) own) where
  pub named_as : (known : Option X) → found ≡ known → named (edits_of h.events) edit.reference ≡ option_map f known
  named_as known is = ap (λ (r : List ℕ). named (edits_of h.events) r) (sym same) ∙ sym told ∙ ap (λ (o : Option X). option_map f o) is

  pub is_again : (known : X) → found ≡ Some known
      → verdict h edit ≡ (if is_same (f known).edit edit then Repeats (f known).number else Refuses (RefReused (f known).number))
  is_again known is = ap (λ (o : Option Numbered). verdict_by o edit (refusal_of h edit)) (named_as (Some known) is)
