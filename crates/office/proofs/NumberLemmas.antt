-- Where no accepted edit has a number.
use Rattle.std.specs.Prelude.{◌≡◌, ◌↔◌, ◌⊎◌, ℕ, ◌<◌, ◌≤◌, ◌-◌, ◌==◌, Bool, true, false, cond, List, length, slice_get, Option, Some, None, option_map}
use Rattle.std.proofs.Common.{arith, refl, ap, sym, inl, inr, ◌∙◌}
use Rattle.std.proofs.lemmas.Bool.{eq-eqb, eqb-false, eqb-true}
use Rattle.std.proofs.lemmas.Option.{slice_get_cases, slice_get_past}
use Rattle.edits.specs.declared.content.Edit.{Edit}
use Rattle.history.specs.Accepted.{accepted, edit_numbered, edit_of}
use Rattle.history.specs.Events.{Event}
use Rattle.history.proofs.VerdictLemmas.{none_mapped}
use Rattle.records.specs.Sheets.{Record}

none_and_some : (o : Option Record) (piece : Record) → o ≡ None → o ≡ Some piece → ⊥
none_and_some None piece e f = cc
none_and_some (Some other) piece e f = cc

none_there : (pieces : List Record) (place : ℕ) → slice_get pieces place ≡ None → length pieces ≤ place
none_there pieces place e = elim (slice_get_cases pieces place).1 [
  | inl there ↦ absurd (none_and_some _ there.0 e there.2)
  | inr past ↦ past.0
]

from_none : (pieces : List Record) (number : ℕ) (b : Bool) → (number == 0) ≡ b → option_map edit_of (cond b None (slice_get pieces (number - 1))) ≡ None
    → (number ≡ 0) ⊎ (length pieces < number)
from_none pieces number true is e = inl (eqb-true number 0 is)
from_none pieces number false is e =
    let past = none_there pieces (number - 1) (none_mapped edit_of (slice_get pieces (number - 1)) e) in
    let some : number ≡ 0 → ⊥ = eqb-false number 0 is in
    inr (omega (arith, past, some))

to_none : (pieces : List Record) (number : ℕ) (b : Bool) → (number == 0) ≡ b → (number ≡ 0) ⊎ (length pieces < number)
    → option_map edit_of (cond b None (slice_get pieces (number - 1))) ≡ None
to_none pieces number true is h = refl
to_none pieces number false is (inl zero_is) = absurd (eqb-false number 0 is zero_is)
to_none pieces number false is (inr past) = ap (option_map edit_of) (slice_get_past pieces (number - 1) (omega (arith, past)))

pub none_numbered : (events : List Event) (number : ℕ) → edit_numbered events number ≡ None ↔ (number ≡ 0) ⊎ (length (accepted events) < number)
none_numbered events number = (from_none (accepted events) number (number == 0) refl, to_none (accepted events) number (number == 0) refl)

-- what is lent is none exactly there
pub none_lent : {A : Type 0} (f : A → Edit) (lent : Option A) (events : List Event) (number : ℕ) → option_map f lent ≡ edit_numbered events number
    → lent ≡ None ↔ (number ≡ 0) ⊎ (length (accepted events) < number)
none_lent f lent events number is =
    let n = none_numbered events number in
    (λ e. n.0 (sym is ∙ ap (option_map f) e), λ h. none_mapped f lent (is ∙ n.1 h))
