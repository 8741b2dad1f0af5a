-- An opening behind a stop is a step of the office that was stopped.
use Rattle.std.specs.Prelude.{◌≡◌, ℕ, List, [], ◌∷◌, ◌++◌, map, reverse, All, Option, Some, None, ◌≤◌, length}
use Rattle.std.proofs.Common.{arith, refl, ap, sym, subst, inl, inr, ◌∙◌}
use Rattle.std.proofs.lemmas.List.{append-nil, append_assoc, append_cancel_left, map-append}
use Rattle.std.proofs.lemmas.List.Elements.{All-cons, All-nil}
use Rattle.edits.specs.declared.content.Edit.{Edit}
use Rattle.history.specs.Accepted.{accepted, edit_of, edits_of}
use Rattle.history.specs.After.{doubt, doubt_back, go_on, left_by, publication, reopen}
use Rattle.history.specs.Awaited.{SiteDay}
use Rattle.history.specs.Events.{Event, Accepted, Faulted, History}
use Rattle.history.specs.Verdicts.{Accepts, record_of, verdict}
use Rattle.history.specs.declared.recorded.NotKept.{NotKept}
use Rattle.history.specs.declared.recorded.NotKept.TheVariants as not_kept
use Rattle.history.proofs.EventLemmas.{accepted_accepted, accepted_faulted}
use Rattle.history.proofs.LegalLemmas.{head_of, not_nil, tail_of}
use Rattle.journal.specs.JournalBytes.{IsJournalOf, StandsFor}
use Rattle.journal.proofs.Walks.{one_format, one_list}
use Rattle.office.specs.Openings.{IsOpened}
use Rattle.office.specs.Steps.{Step, AStop, IsCall, IsReopened, IsStep, MayBeFound, added_by, cut_off, GoesOver, added}
use Rattle.office.specs.Stops.{IsLeft, IsLeftBefore, IsLeftBetween, in_flight}
use Rattle.office.proofs.CourseLemmas.{call_course, edits_after}
use Rattle.office.proofs.DoubtLemmas.{accepted_publications, doubt_publications}
use Rattle.office.proofs.EditLemmas.{doubt_accepted, doubt_faulted}
use Rattle.office.proofs.StepLemmas.{Course, Still, Taken, Failed, Shown}
use Rattle.records.specs.Sheets.{Record}
use Rattle.records.specs.declared.formats.Format.{Format}
use Rattle.register.specs.Registered.{Registered, NoneOut}

-- these records are those of the accepted edits, or these and one that may be found where this call was cut off
abbrev Finds : History → Option Edit → List Record → Option Record → Type 0
Finds h cut pieces None = pieces ≡ accepted h.events
Finds h cut pieces (Some piece) = MayBeFound h cut piece × (pieces ≡ accepted h.events ++ piece ∷ [])

module _ (h : History) (cut : Option Edit) (pieces : List Record) (image : List ℕ) (journal : IsJournalOf h.format pieces image) where
  finds : (records : List Record) (o : Option Record) → records ≡ accepted h.events → ((piece : Record) → o ≡ Some piece → MayBeFound h cut piece)
      → StandsFor h.format records o image → (found : Option Record) × Finds h cut pieces found
  finds records None are may stands = (None, one_list h.format pieces records image journal stands ∙ are)
  finds records (Some last) are may stands = elim stands [
    | inl without ↦ (None, one_list h.format pieces records image journal without ∙ are)
    | inr with_last ↦ (
      Some last,
      (may last refl, one_list h.format pieces (records ++ last ∷ []) image journal with_last ∙ ap (λ (l : List Record). l ++ last ∷ []) are),
    )
  ]

  finds_left : IsLeft h image → (found : Option Record) × Finds h cut pieces found
  finds_left left = finds (accepted h.events) (doubt h) refl (λ piece d. inl d) left

-- the record that a fault leaves may be found where the call of its edit was cut off
left_found : (h : History) (cut : Option Edit) (edit : Edit) (failed : NotKept) → cut ≡ Some edit → verdict h edit ≡ Accepts → (piece : Record)
    → left_by (doubt h) (record_of h edit) failed ≡ Some piece → MayBeFound h cut piece
left_found h cut edit not_kept.Mend its v piece e = inl e
left_found h cut edit not_kept.Record its v piece e = absurd (cc)
left_found h cut edit not_kept.Gate its v piece e = let same : record_of h edit ≡ piece = cc in inr (edit, its, v, sym same)

-- publications that are parted
record AreParted (days : List SiteDay) (since behind : List Event) : Type 0 where
  first : List SiteDay
  second : List SiteDay
  since_are : since ≡ map publication first
  behind_are : behind ≡ map publication second

parted_days : (days : List SiteDay) (since behind : List Event) → map publication days ≡ since ++ behind → AreParted days since behind
unfolding head_of tail_of
parted_days days [] behind e = record { first = []; second = days; since_are = refl; behind_are = sym e }
parted_days [] (x ∷ since) behind e = absurd (cc)
parted_days (d ∷ days) (x ∷ since) behind e =
    let rest = parted_days days since behind (ap tail_of e) in
    let same : publication d ≡ x = ap (head_of x) e in
    record {
      first = d ∷ rest.first;
      second = rest.second;
      since_are = ap (λ (y : Event). y ∷ since) (sym same) ∙ ap (λ (l : List Event). publication d ∷ l) rest.since_are;
      behind_are = rest.behind_are;
    }

-- a publication has no record in flight
no_flight : (days : List SiteDay) (event : Event) (rest : List Event) → event ∷ rest ≡ map publication days → (piece : Record) → in_flight event ≡ Some piece → ⊥
unfolding head_of
no_flight [] event rest e piece i = cc
no_flight (d ∷ days) event rest e piece i =
    let same : event ≡ publication d = ap (head_of event) e in
    let none : None ≡ Some piece = sym (ap in_flight same) ∙ i in
    cc

-- one event comes first
one_event : (e : Event) (since : List Event) (event : Event) (rest : List Event) → e ∷ [] ≡ since ++ event ∷ rest → (since ≡ []) × (event ≡ e)
unfolding head_of tail_of
one_event e [] event rest h = (refl, sym (ap (head_of e) h))
one_event e (x ∷ since) event rest h = absurd (not_nil since event rest (ap tail_of h))

-- on the way to this event the same edits are accepted, and the same record is in doubt; one that is in flight may be found where the
-- call was cut off
record IsBefore (h : History) (cut : Option Edit) (since : List Event) (event : Event) : Type 0 where
  records : accepted (h.events ++ since) ≡ accepted h.events
  in_doubt : doubt_back (reverse (h.events ++ since)) ≡ doubt h
  flight : (piece : Record) → in_flight event ≡ Some piece → MayBeFound h cut piece

first_event : (h : History) (cut : Option Edit) (since : List Event) (event own : Event) → (since ≡ []) × (event ≡ own)
    → ((piece : Record) → in_flight own ≡ Some piece → MayBeFound h cut piece) → IsBefore h cut since event
first_event h cut since event own e flight = record {
  records = ap (λ (l : List Event). accepted (h.events ++ l)) e.0 ∙ ap accepted (append-nil h.events);
  in_doubt = ap (λ (l : List Event). doubt_back (reverse (h.events ++ l))) e.0 ∙ ap (λ (l : List Event). doubt_back (reverse l)) (append-nil h.events);
  flight = λ piece i. flight piece (sym (ap in_flight e.1) ∙ i);
}

events_in : History → List Event
events_in h = h.events

module _ (h new : History) (cut : Option Edit) (since : List Event) (event : Event) (rest : List Event) (whole : new.events ≡ (h.events ++ since) ++ event ∷ rest) where
  behind : (more : List Event) → new.events ≡ h.events ++ more → more ≡ since ++ event ∷ rest
  behind more e = append_cancel_left h.events more (since ++ event ∷ rest) (sym e ∙ whole ∙ append_assoc h.events since (event ∷ rest))

  is_before : (edits : List Edit) → Course h cut edits new → IsBefore h cut since event
  unfolding events_in
  is_before edits (Still e is) = absurd (not_nil since event rest (behind [] (ap events_in is ∙ sym (append-nil h.events))))
  is_before edits (Taken edit its e v is) =
      first_event h cut since event (Accepted (record_of h edit)) (one_event (Accepted (record_of h edit)) since event rest (behind (Accepted (record_of h edit) ∷ []) (ap events_in is)))
      (λ piece i. let same : record_of h edit ≡ piece = cc in inr (edit, its, v, sym same))
  is_before edits (Failed edit left its e v may is) =
      first_event h cut since event (Faulted left) (one_event (Faulted left) since event rest (behind (Faulted left ∷ []) (ap events_in is)))
      (λ piece i. left_found h cut edit may.0 its v piece (sym may.1 ∙ i))
  is_before edits (Shown days e p is) =
      let parts = parted_days days since (event ∷ rest) (behind (map publication days) (ap events_in is)) in
      record {
        records = ap (λ (l : List Event). accepted (h.events ++ l)) parts.since_are ∙ accepted_publications h.events parts.first;
        in_doubt = ap (λ (l : List Event). doubt_back (reverse (h.events ++ l))) parts.since_are ∙ doubt_publications h.events parts.first;
        flight = λ piece i. absurd (no_flight parts.second event rest parts.behind_are piece i);
      }

module _ (h : History) (cut : Option Edit) (pieces : List Record) (image : List ℕ) (journal : IsJournalOf h.format pieces image) where
  -- what a stop leaves when the call has done all
  found_after : (edits : List Edit) (new : History) → Course h cut edits new → StandsFor h.format (accepted new.events) (doubt new) image
      → (found : Option Record) × Finds h cut pieces found
  found_after edits new (Still e is) left =
      finds h cut pieces image journal (accepted new.events) (doubt new) (ap (λ (x : History). accepted x.events) is)
      (λ piece d. inl (sym (ap doubt is) ∙ d)) left
  found_after edits new (Taken edit its e v is) left =
      let records = ap (λ (x : History). accepted x.events) is ∙ accepted_accepted h.events (record_of h edit) in
      let stands = subst (λ (o : Option Record). StandsFor h.format (accepted new.events) o image) (ap doubt is ∙ doubt_accepted h edit) left in
      (Some (record_of h edit), (inr (edit, its, v, refl), one_list h.format pieces (accepted new.events) image journal stands ∙ records))
  found_after edits new (Failed edit lost its e v may is) left =
      finds h cut pieces image journal (accepted new.events) (doubt new) (ap (λ (x : History). accepted x.events) is ∙ accepted_faulted h.events lost)
      (λ piece d. left_found h cut edit may.0 its v piece (sym may.1 ∙ sym (doubt_faulted h lost) ∙ sym (ap doubt is) ∙ d)) left
  found_after edits new (Shown days e p is) left =
      finds h cut pieces image journal (accepted new.events) (doubt new) (ap (λ (x : History). accepted x.events) is ∙ accepted_publications h.events days)
      (λ piece d. inl (sym (doubt_publications h.events days) ∙ sym (ap doubt is) ∙ d)) left

  -- and what it leaves inside the call
  found_inside : (edits : List Edit) (new : History) → Course h cut edits new → (since behind : List Event) → new.events ≡ (h.events ++ since) ++ behind
      → IsLeftBefore (go_on h since) behind image → (found : Option Record) × Finds h cut pieces found
  found_inside edits new course since [] whole left =
      let all : h.events ++ since ≡ new.events = sym (append-nil (h.events ++ since)) ∙ sym whole in
      found_after edits new course (subst (λ (l : List Event). StandsFor h.format (accepted l) (doubt_back (reverse l)) image) all left)
  found_inside edits new course since (event ∷ rest) whole left =
      let before = is_before h new cut since event rest whole edits course in
      elim left [
        | inl here ↦
            finds h cut pieces image journal (accepted (h.events ++ since)) (doubt_back (reverse (h.events ++ since))) before.records
            (λ piece d. inl (sym before.in_doubt ∙ d)) here
        | inr flown ↦ finds h cut pieces image journal (accepted (h.events ++ since)) (in_flight event) before.records before.flight flown
      ]

found_by_step : (old : Registered) (step : Step) (new : Registered) (image : List ℕ) (pieces : List Record) → IsCall step → IsStep old step new
    → IsLeftBetween old.history new.history image → IsJournalOf old.history.format pieces image → (found : Option Record) × Finds old.history (cut_off step) pieces found
found_by_step old step new image pieces call is left journal =
    found_inside old.history (cut_off step) pieces image journal (added_by step) new.history (call_course old step new call is) left.since left.behind
    left.after_is left.left

reopened_on : (old register : Registered) (cut : Option Edit) (pieces : List Record) (found : Option Record) → Finds old.history cut pieces found
    → register.history ≡ reopen old.history.limits old.history.format pieces → NoneOut register → IsReopened old cut found register
reopened_on old register cut pieces None is e none = (e ∙ ap (reopen old.history.limits old.history.format) is, none)
reopened_on old register cut pieces (Some piece) is e none = (is.0, e ∙ ap (reopen old.history.limits old.history.format) is.1, none)

-- what is left has the history's format
stands_in : (format other : Format) (records : List Record) (o : Option Record) (pieces : List Record) (image : List ℕ) → StandsFor format records o image
    → IsJournalOf other pieces image → other ≡ format
stands_in format other records None pieces image stands journal = one_format other format pieces records image journal stands
stands_in format other records (Some last) pieces image stands journal = elim stands [
  | inl without ↦ one_format other format pieces records image journal without
  | inr with_last ↦ one_format other format pieces (records ++ last ∷ []) image journal with_last
]

pub left_in : (h : History) (behind : List Event) (format : Format) (pieces : List Record) (image : List ℕ) → IsLeftBefore h behind image
    → IsJournalOf format pieces image → format ≡ h.format
left_in h [] format pieces image left journal = stands_in h.format format (accepted h.events) (doubt h) pieces image left journal
left_in h (event ∷ behind) format pieces image left journal = elim left [
  | inl here ↦ stands_in h.format format (accepted h.events) (doubt h) pieces image here journal
  | inr flown ↦ stands_in h.format format (accepted h.events) (in_flight event) pieces image flown journal
]

-- so has what is opened on it
module _ (old register : Registered) (image : List ℕ) (o : IsOpened (Some image) old.history.limits register) (same : register.history.format ≡ old.history.format) where
  opened_found : IsJournalOf old.history.format o.pieces image
  opened_found = subst (λ (f : Format). IsJournalOf f o.pieces image) same o.found

  opened_again : register.history ≡ reopen old.history.limits old.history.format o.pieces
  opened_again = o.reopened ∙ ap (λ (f : Format). reopen old.history.limits f o.pieces) same

pub stopped_between : (old register : Registered) (image : List ℕ) → IsLeft old.history image → IsOpened (Some image) old.history.limits register
    → (found : Option Record) × IsStep old (AStop None found) register
stopped_between old register image left o =
    let same = left_in old.history [] register.history.format o.pieces image left o.found in
    let at = finds_left old.history None o.pieces image (opened_found old register image o same) left in
    (at.0, reopened_on old register None o.pieces at.0 at.1 (opened_again old register image o same) o.claims)

pub stopped_inside : (old : Registered) (step : Step) (new register : Registered) (image : List ℕ) → IsCall step → IsStep old step new
    → IsLeftBetween old.history new.history image → IsOpened (Some image) old.history.limits register
    → (found : Option Record) × IsStep old (AStop (cut_off step) found) register
stopped_inside old step new register image call is left o =
    let same = left_in (go_on old.history left.since) left.behind register.history.format o.pieces image left.left o.found in
    let at = found_by_step old step new image o.pieces call is left (opened_found old register image o same) in
    (at.0, reopened_on old register (cut_off step) o.pieces at.0 at.1 (opened_again old register image o same) o.claims)

-- the records of the edits that were accepted before, of all that were added since, and of these more
abbrev HasMore : List Event → List Step → History → Option Edit → List Record → List Record → Type 0
HasMore events before h cut pieces more =
    (length more ≤ 1) × All (MayBeFound h cut) more × (map edit_of pieces ≡ (edits_of events ++ added before) ++ map edit_of more)

edits_left : (old at : Registered) (before : List Step) (cut : Option Edit) (pieces : List Record) → GoesOver old before at
    → (found : Option Record) → Finds at.history cut pieces found → (more : List Record) × HasMore old.history.events before at.history cut pieces more
edits_left old at before cut pieces goes None is =
    let edits = edits_of old.history.events ++ added before in
    ([], (omega arith, All-nil (MayBeFound at.history cut), ap (map edit_of) is ∙ edits_after old before at goes ∙ sym (append-nil edits)))
edits_left old at before cut pieces goes (Some piece) is = (
  piece ∷ [],
  (
    omega arith,
    All-cons (MayBeFound at.history cut) piece [] is.0 (All-nil (MayBeFound at.history cut)),
    ap (map edit_of) is.1 ∙ map-append edit_of (accepted at.history.events) (piece ∷ [])
        ∙ ap (λ (l : List Edit). l ++ piece.edit ∷ []) (edits_after old before at goes),
  ),
)

pub left_between : (old at : Registered) (before : List Step) (image : List ℕ) (pieces : List Record) → GoesOver old before at → IsLeft at.history image
    → IsJournalOf at.history.format pieces image → (more : List Record) × HasMore old.history.events before at.history None pieces more
left_between old at before image pieces goes left journal =
    let found = finds_left at.history None pieces image journal left in
    edits_left old at before None pieces goes found.0 found.1

pub left_inside : (old at new : Registered) (before : List Step) (step : Step) (image : List ℕ) (pieces : List Record) → GoesOver old before at → IsCall step
    → IsStep at step new → IsLeftBetween at.history new.history image → IsJournalOf at.history.format pieces image
    → (more : List Record) × HasMore old.history.events before at.history (cut_off step) pieces more
left_inside old at new before step image pieces goes call is left journal =
    let found = found_by_step at step new image pieces call is left journal in
    edits_left old at before (cut_off step) pieces goes found.0 found.1
