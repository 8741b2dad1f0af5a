-- An office that is opened with one edit more.
use Rattle.std.specs.Prelude.{◌≡◌, ◌+◌, Bool, true, false, cond, List, [], ◌∷◌, ◌++◌, length, map}
use Rattle.std.proofs.Common.{arith, refl, ap, sym, subst, ◌∙◌, length-append}
use Rattle.std.proofs.lemmas.List.{append-nil, map-append}
use Rattle.history.specs.Accepted.{accepted}
use Rattle.history.specs.After.{after_record, reopen}
use Rattle.history.specs.Events.{Event, Accepted, History}
use Rattle.history.specs.Legal.{IsLegal, MayBeKept}
use Rattle.history.proofs.LegalLemmas.{legal_with}
use Rattle.records.specs.Sheets.{Record}

module _ (h : History) (piece : Record) (opening : h ≡ reopen h.limits h.format (accepted h.events)) where
  abbrev known : List Record
  known = accepted h.events ++ piece ∷ []

  -- it is opened with one more
  pub reopened_more : after_record (h.opened + 1) h piece ≡ reopen h.limits h.format known
  reopened_more =
      let one = length-append (accepted h.events) (piece ∷ []) in
      let same = ap (λ (x : History). x.opened) opening in
      let count : h.opened + 1 ≡ length known = omega (arith, one, same) in
      let events : h.events ++ Accepted piece ∷ [] ≡ map Accepted known =
      ap (λ (l : List Event). l ++ Accepted piece ∷ []) (ap (λ (x : History). x.events) opening)
      ∙ sym (map-append Accepted (accepted h.events) (piece ∷ [])) in
      ap (λ k. record { opened = k; limits = h.limits; format = h.format; events = h.events ++ Accepted piece ∷ [] }) count
      ∙ ap (λ (l : List Event). record { opened = length known; limits = h.limits; format = h.format; events = l }) events

  pub legal_opened : IsLegal h → MayBeKept h.limits h.format h.events piece → IsLegal (after_record (h.opened + 1) h piece)
  legal_opened k m = subst IsLegal (sym reopened_more) (legal_with h h.events [] piece k (sym (append-nil h.events)) m)

-- a claim that is ended or was not out is not out
pub not_out : (marked out : Bool) → out ≡ false → cond marked false out ≡ false
not_out true out h = refl
not_out false out h = h
