-- The accepted edit that a reference names stands in the place where its record has the reference.
use Rattle.std.specs.Prelude.{◌≡◌, ℕ, ◌+◌, true, false, List, slice_get, bytes_eq, Option, Some, None, IfSome, option_map}
use Rattle.std.proofs.Common.{arith, refl, ap, sym, ◌∙◌}
use Rattle.std.proofs.lemmas.Bool.{false≢true}
use Rattle.std.proofs.lemmas.Option.{slice_get-map}
use Rattle.std.specs.Cmp.Lexicographic.{bytes_decides}
use Rattle.edits.specs.declared.content.Edit.{Edit}
use Rattle.history.specs.Accepted.{Numbered, accepted, edit_of, edits_of, named}
use Rattle.history.specs.Events.{Event, History}
use Rattle.history.specs.Legal.{IsLegal}
use Rattle.history.proofs.NamedLemmas.{StandsAt, named_stands, none_named}
use Rattle.history.proofs.RepeatLemmas.{same_place}
use Rattle.records.specs.Sheets.{Record}
use Rattle.register.specs.Keeping.{PlacesAll}
use Rattle.register.specs.References.{Placed, IsPlacedFor, has_reference, is_its}
use Rattle.register.proofs.KeepsLemmas.{IsPlaced}

told_as : (number : ℕ) (edit : Edit) (n : Numbered) → number ≡ n.number → edit ≡ n.edit → Some (record { number = number; edit = edit }) ≡ Some n
told_as number edit n e f = rw (e, f) refl

same_reference : (a b reference : List ℕ) → bytes_eq a reference ≡ true → bytes_eq b reference ≡ true → a ≡ b
same_reference a b reference e f = (bytes_decides a reference).0 e ∙ sym ((bytes_decides b reference).0 f)

at_place : (events : List Event) (place : ℕ) (o : Option Record) → slice_get (accepted events) place ≡ o → slice_get (edits_of events) place ≡ option_map edit_of o
at_place events place o e = slice_get-map edit_of (accepted events) place ∙ ap (λ (p : Option Record). option_map edit_of p) e

-- the record of a place that has the reference is the one that it names
module _ (h : History) (legal : IsLegal h) (reference : List ℕ) (place : ℕ) where
  own_here : (found : Option Numbered) (edit : Edit) → named (edits_of h.events) reference ≡ found → slice_get (edits_of h.events) place ≡ Some edit
      → bytes_eq edit.reference reference ≡ true → Some (record { number = place + 1; edit = edit }) ≡ found
  own_here None edit e s d = absurd (false≢true (sym (none_named reference (edits_of h.events) place edit e s) ∙ d))
  own_here (Some n) edit e s d =
      let stands : StandsAt reference 1 (edits_of h.events) n = named_stands reference (edits_of h.events) n e in
      let own : place ≡ stands.place =
      same_place h place stands.place edit n.edit legal s stands.edit_is (same_reference edit.reference n.edit.reference reference d stands.reference_is) in
      let there : slice_get (edits_of h.events) place ≡ Some n.edit = ap (slice_get (edits_of h.events)) own ∙ stands.edit_is in
      let same : edit ≡ n.edit = cc in
      let number = stands.number_is in
      told_as (place + 1) edit n (omega (arith, own, number)) same

  pub own_stands : (piece : Record) → slice_get (accepted h.events) place ≡ Some piece → bytes_eq piece.edit.reference reference ≡ true
      → Some (record { number = place + 1; edit = piece.edit }) ≡ named (edits_of h.events) reference
  own_stands piece e d = own_here (named (edits_of h.events) reference) piece.edit refl (at_place h.events place (Some piece) e) d

-- where no place that is kept for the reference has such a record, none is named
its_record : (reference : List ℕ) (o : Option Record) (edit : Edit) → option_map edit_of o ≡ Some edit → bytes_eq edit.reference reference ≡ true
    → is_its reference o ≡ true
its_record reference None edit e d = absurd (cc)
its_record reference (Some piece) edit e d =
    let same : piece.edit ≡ edit = cc in
    ap (λ (x : Edit). bytes_eq x.reference reference) same ∙ d

module _ (events : List Event) (kept : List Placed) (pieces : List Record) (reference : List ℕ) (are : pieces ≡ accepted events)
    (absent : (place : ℕ) → IsPlacedFor kept reference place → has_reference pieces reference place ≡ false) where
  none_here : (found : Option Numbered) → named (edits_of events) reference ≡ found → IfSome found (IsPlaced kept reference) → found ≡ None
  none_here None e p = refl
  none_here (Some n) e p =
      let stands : StandsAt reference 1 (edits_of events) n = named_stands reference (edits_of events) n e in
      let number = stands.number_is in
      let counted = p.2 in
      let own : stands.place ≡ p.0 = omega (arith, number, counted) in
      let there : slice_get (edits_of events) p.0 ≡ Some n.edit = ap (slice_get (edits_of events)) (sym own) ∙ stands.edit_is in
      let record_there = sym (at_place events p.0 (slice_get pieces p.0) (ap (λ (l : List Record). slice_get l p.0) (sym are))) ∙ there in
      absurd (false≢true (sym (absent p.0 p.1) ∙ its_record reference (slice_get pieces p.0) n.edit record_there stands.reference_is))

  pub none_stands : PlacesAll (edits_of events) kept → named (edits_of events) reference ≡ None
  none_stands all = none_here (named (edits_of events) reference) refl (all reference)

-- a place with a record that has the reference is one of the records
pub stands_there : (pieces : List Record) (reference : List ℕ) (place : ℕ) → has_reference pieces reference place ≡ true → slice_get pieces place ≡ None → ⊥
stands_there pieces reference place h n = false≢true (sym (ap (is_its reference) n) ∙ h)

pub has_own : (pieces : List Record) (reference : List ℕ) (place : ℕ) (piece : Record) → has_reference pieces reference place ≡ true
    → slice_get pieces place ≡ Some piece → bytes_eq piece.edit.reference reference ≡ true
has_own pieces reference place piece h s = sym (ap (is_its reference) s) ∙ h
