-- An edit that is in force is told its number when it is sent again, and nothing happens.
use Rattle.std.proofs.Common.{◌≡◌, refl, ap, sym, subst, ◌∙◌, ℕ, Bool, true, false, List, [], ◌∷◌, Result, Ok, Err, inl, inr}
use Rattle.edits.specs.declared.content.Edit.{Edit}
use Rattle.history.proofs.RepeatLemmas.{is_repeated}
use Rattle.history.specs.Events.{History}
use Rattle.history.specs.Legal.{IsLegal}
use Rattle.history.specs.Verdicts.{Repeats, verdict}
use Rattle.office.specs.Edits.{Edits, IsRefusedBy, IsTaken}
use Rattle.office.specs.declared.offices.Accepted.{Accepted}
use Rattle.office_inputs.specs.declared.refusals.Refusal.{Refusal}
use Rattle.office_inputs.specs.declared.refusals.Refusal.TheVariants.{NoMemory, JournalFault}
use Rattle.told_edits.specs.Again.{AreInForce, AreToldAgain, IsInForce, IsToldAgain}
use Rattle.told_edits.specs.Lines.{AreSent, accepted_line, refused_line, told_line}

module _ (h next : History) (edit : Edit) (number : ℕ) (repeats : verdict h edit ≡ Repeats number) where
  taken_again : (told : ℕ) (again : Bool) → IsTaken h edit next told again → (next ≡ h) × (told ≡ number)
  taken_again told true is = (is.1, cc (sym is.0 ∙ repeats))
  taken_again told false is = absurd (cc (sym is.0 ∙ repeats))

  refused_again : (end : List ℕ) (refusal : Refusal) → IsRefusedBy h edit next refusal → (next ≡ h) × IsToldAgain end number (refused_line end refusal)
  refused_again end NoMemory is = (is, inr refl)
  refused_again end (JournalFault in_doubt) is = absurd (cc (sym is.lawful ∙ repeats))
  refused_again end refusal is = absurd (cc (sym is.0 ∙ repeats))

  pub one_again : (end : List ℕ) (told : Result Accepted Refusal) → Edits h edit next told → (next ≡ h) × IsToldAgain end number (told_line end told)
  one_again end (Ok told) is =
      let same = taken_again told.number told.repeated is in
      (same.0, inl (ap (λ (n : ℕ). accepted_line end n) same.1))
  one_again end (Err refusal) is = refused_again end refusal is

repeated : (h : History) (edit : Edit) (number : ℕ) → IsLegal h → IsInForce h edit number → verdict h edit ≡ Repeats number
repeated h edit number legal stands = is_repeated h stands.0 edit legal stands.2 ∙ ap Repeats (sym stands.1)

pub told_again : (end : Edit → List ℕ) (h after : History) (edits : List Edit) (numbers : List ℕ) (lines : List (List ℕ)) → IsLegal h
    → AreInForce h edits numbers → AreSent end h edits lines after → (after ≡ h) × AreToldAgain end edits numbers lines
told_again end h after [] [] [] legal stand sent = (sent, tt)
told_again end h after [] [] (line ∷ lines) legal stand sent = absurd sent
told_again end h after [] (number ∷ numbers) lines legal stand sent = absurd stand
told_again end h after (edit ∷ edits) [] lines legal stand sent = absurd stand
told_again end h after (edit ∷ edits) (number ∷ numbers) [] legal stand sent = absurd sent
told_again end h after (edit ∷ edits) (number ∷ numbers) (line ∷ lines) legal stand sent =
    let one = one_again h sent.0 edit number (repeated h edit number legal stand.0) (end edit) sent.1.told sent.1.edited in
    let rest = told_again end h after edits numbers lines legal stand.1 (subst (λ (x : History). AreSent end x edits lines after) one.0 sent.2) in
    (rest.0, (subst (λ (l : List ℕ). IsToldAgain (end edit) number l) (sym sent.1.line_is) one.1, rest.1))
