-- Behind an opening each day that was ever changed awaits the edit that changed it last, and no other day awaits one.
use Rattle.std.specs.Prelude.{◌≡◌, ℕ, ◌+◌, Bool, true, cond, List, [], ◌∷◌, ◌++◌, length, map, Some, None, ℤ}
use Rattle.std.proofs.Common.{arith, refl, ap, sym, subst, ◌∙◌}
use Rattle.std.proofs.lemmas.List.{append-nil, append_assoc, length-map, map-append}
use Rattle.edits.specs.declared.content.Edit.{Edit}
use Rattle.fixed_units.specs.Quantities.{SiteNumber}
use Rattle.history.specs.Accepted.{accepted, changes, edit_of, edits_of, stations_at}
use Rattle.history.specs.Awaited.{awaited, awaited_back}
use Rattle.history.specs.Events.{Event, Accepted}
use Rattle.history.specs.LastChanges.{ChangedLast, NoneChanges}
use Rattle.history.proofs.EventLemmas.{accepted_all, awaited_accepted, edits_accepted}
use Rattle.office_inputs.specs.Stations.{stations_of}
use Rattle.records.specs.Sheets.{Record}

-- the record of an edit among those of others
record Parts (pieces : List Record) (older : List Edit) (edit : Edit) (newer : List Edit) : Type 0 where
  first : List Record
  piece : Record
  rest : List Record
  pieces_are : pieces ≡ first ++ piece ∷ rest
  first_is : map edit_of first ≡ older
  edit_is : piece.edit ≡ edit
  rest_is : map edit_of rest ≡ newer

one_before : (piece : Record) (pieces : List Record) (other : Edit) (older : List Edit) (edit : Edit) (newer : List Edit) → piece.edit ≡ other
    → Parts pieces older edit newer → Parts (piece ∷ pieces) (other ∷ older) edit newer
one_before piece pieces other older edit newer same parts = record {
  first = piece ∷ parts.first;
  piece = parts.piece;
  rest = parts.rest;
  pieces_are = ap (λ (l : List Record). piece ∷ l) parts.pieces_are;
  first_is = ap (λ (e : Edit). e ∷ map edit_of parts.first) same ∙ ap (λ (l : List Edit). other ∷ l) parts.first_is;
  edit_is = parts.edit_is;
  rest_is = parts.rest_is;
}

parted : (pieces : List Record) (older : List Edit) (edit : Edit) (newer : List Edit) → map edit_of pieces ≡ older ++ edit ∷ newer → Parts pieces older edit newer
parted [] [] edit newer h = absurd (cc)
parted [] (other ∷ older) edit newer h = absurd (cc)
parted (piece ∷ pieces) [] edit newer h =
    let same : piece.edit ≡ edit = cc in
    let rest : map edit_of pieces ≡ newer = cc in
    record { first = []; piece = piece; rest = pieces; pieces_are = refl; first_is = refl; edit_is = same; rest_is = rest }
parted (piece ∷ pieces) (other ∷ older) edit newer h =
    let same : piece.edit ≡ other = cc in
    let rest : map edit_of pieces ≡ older ++ edit ∷ newer = cc in
    one_before piece pieces other older edit newer same (parted pieces older edit newer rest)

module _ (site : SiteNumber) (day : ℤ) where
  -- records of edits that do not change the day leave what it awaits
  none_since : (more : List Record) (events : List Event) → NoneChanges site day (edits_of events) (map edit_of more)
      → awaited (events ++ map Accepted more) site day ≡ awaited events site day
  none_since [] events n = ap (λ (l : List Event). awaited l site day) (append-nil events)
  none_since (piece ∷ more) events n =
      let one : awaited (events ++ Accepted piece ∷ []) site day ≡ awaited events site day =
      awaited_accepted events piece site day ∙ ap (λ (b : Bool). cond b (Some (length (accepted events) + 1)) (awaited events site day)) n.0 in
      let rest = none_since more (events ++ Accepted piece ∷ [])
      (subst (λ (es : List Edit). NoneChanges site day es (map edit_of more)) (sym (edits_accepted events piece)) n.1) in
      ap (λ (l : List Event). awaited l site day) (sym (append_assoc events (Accepted piece ∷ []) (map Accepted more))) ∙ rest ∙ one

  pub awaits_last : (pieces : List Record) (number : ℕ) → ChangedLast (map edit_of pieces) site day number → awaited (map Accepted pieces) site day ≡ Some number
  awaits_last pieces number h =
      let p = parted pieces h.older h.edit h.newer h.edits_are in
      let before = map Accepted p.first in
      let events : map Accepted pieces ≡ (before ++ Accepted p.piece ∷ []) ++ map Accepted p.rest =
      ap (map Accepted) p.pieces_are ∙ map-append Accepted p.first (p.piece ∷ p.rest)
      ∙ sym (append_assoc before (Accepted p.piece ∷ []) (map Accepted p.rest)) in
      let known : edits_of before ≡ h.older = ap (map edit_of) (accepted_all p.first) ∙ p.first_is in
      let changed : changes (stations_at before) p.piece.edit site day ≡ true =
      ap (λ (es : List Edit). changes (stations_of es) p.piece.edit site day) known
      ∙ ap (λ (e : Edit). changes (stations_of h.older) e site day) p.edit_is ∙ h.changed in
      let none : NoneChanges site day (edits_of (before ++ Accepted p.piece ∷ [])) (map edit_of p.rest) =
      subst (λ (es : List Edit). NoneChanges site day es (map edit_of p.rest))
      (sym (edits_accepted before p.piece ∙ ap (λ (es : List Edit). es ++ p.piece.edit ∷ []) known ∙ ap (λ (e : Edit). h.older ++ e ∷ []) p.edit_is))
      (subst (λ (l : List Edit). NoneChanges site day (h.older ++ h.edit ∷ []) l) (sym p.rest_is) h.since) in
      let few = ap length (accepted_all p.first) in
      let long = length-map p.first edit_of in
      let same = ap length p.first_is in
      let told = h.number_is in
      let count : length (accepted before) + 1 ≡ number = omega (arith, few, long, same, told) in
      ap (λ (l : List Event). awaited l site day) events
      ∙ none_since p.rest (before ++ Accepted p.piece ∷ []) none
      ∙ awaited_accepted before p.piece site day
      ∙ ap (λ (b : Bool). cond b (Some (length (accepted before) + 1)) (awaited before site day)) changed
      ∙ ap (λ n. Some n) count

  pub awaits_none : (pieces : List Record) → NoneChanges site day [] (map edit_of pieces) → awaited (map Accepted pieces) site day ≡ None
  unfolding awaited_back
  awaits_none pieces n = none_since pieces [] n
