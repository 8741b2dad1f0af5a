-- What an office begins with that is opened on the records of a journal.
use Rattle.std.proofs.Common.{◌≡◌, ℕ, List, [], ◌∷◌, ◌++◌, reverse, map, Option, None, refl, sym, ◌∙◌, ap, subst, inl}
use Rattle.std.proofs.lemmas.List.{append-nil, map-append, reverse-append}
use Rattle.history.proofs.EventLemmas.{accepted_all}
use Rattle.history.specs.Accepted.{accepted}
use Rattle.history.specs.After.{doubt, doubt_back, go_on, reopen}
use Rattle.history.specs.Events.{Event, Accepted, History}
use Rattle.journal.specs.JournalBytes.{IsJournalOf, StandsFor}
use Rattle.office.specs.Stops.{IsLeft, IsLeftBefore, IsLeftBetween}
use Rattle.office_inputs.specs.Usual.{usual}
use Rattle.records.specs.Sheets.{Record}
use Rattle.records.specs.declared.formats.Format.{Format}

-- the edits read back
reversed : (pieces : List Record) → reverse (map Accepted pieces) ≡ map Accepted (reverse pieces)
reversed [] = refl
reversed (piece ∷ pieces) =
    let accept : Record → Event = λ p. Accepted p in
    reverse-append (Accepted piece ∷ []) (map accept pieces)
    ∙ ap (λ (l : List Event). l ++ Accepted piece ∷ []) (reversed pieces)
    ∙ sym (map-append accept (reverse pieces) (piece ∷ []))
    ∙ ap (λ (l : List Record). map accept l) (sym (reverse-append (piece ∷ []) pieces))

-- no record is in doubt
none_back : (pieces : List Record) → doubt_back (map Accepted pieces) ≡ None
unfolding doubt_back
none_back [] = refl
none_back (piece ∷ pieces) = refl

none_in_doubt : (format : Format) (pieces : List Record) → doubt (reopen usual format pieces) ≡ None
none_in_doubt format pieces = ap doubt_back (reversed pieces) ∙ none_back (reverse pieces)

-- the journal that was found is that of the edits that were accepted
left_found : (format : Format) (pieces : List Record) (image : List ℕ) → IsJournalOf format pieces image
    → IsLeft (reopen usual format pieces) image
left_found format pieces image journal =
    subst (λ (o : Option Record). StandsFor format (accepted (map Accepted pieces)) o image) (sym (none_in_doubt format pieces))
    (subst (λ (all : List Record). StandsFor format all None image) (sym (accepted_all pieces)) journal)

-- what may be left between two calls may be left before the next event
left_before : (h : History) (behind : List Event) (image : List ℕ) → IsLeft h image → IsLeftBefore h behind image
left_before h [] image left = left
left_before h (event ∷ behind) image left = inl left

-- and is left while the history goes on
pub found_left : (format : Format) (pieces : List Record) (after : History) (since : List Event) (bytes image : List ℕ)
    → after ≡ go_on (reopen usual format pieces) since → IsJournalOf format pieces bytes → image ≡ bytes
    → IsLeftBetween (reopen usual format pieces) after image
found_left format pieces after since bytes image goes_on journal is = record {
  since = [];
  behind = since;
  after_is = ap (λ (h : History). h.events) goes_on ∙ ap (λ (l : List Event). l ++ since) (sym (append-nil (map Accepted pieces)));
  left =
      left_before (go_on (reopen usual format pieces) []) since image
      (subst (λ (l : List Event). IsLeft (record (reopen usual format pieces) { events = l }) image) (sym (append-nil (map Accepted pieces)))
      (left_found format pieces image (subst (IsJournalOf format pieces) (sym is) journal)));
}
