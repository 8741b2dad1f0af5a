-- What is replied to an edit behind a lock stands in each later list.
use Rattle.std.specs.Prelude.{◌≡◌, ℕ, ◌+◌, false, true, List, [], ◌∷◌, ◌++◌, length, map, slice_get, Some}
use Rattle.std.proofs.Common.{refl, ap, sym, ◌∙◌, inl, inr, arith, length-append}
use Rattle.std.proofs.lemmas.Bool.{false≢true}
use Rattle.std.proofs.lemmas.List.{get_or_push, length-map, map-append}
use Rattle.std.proofs.lemmas.Option.{slice_get_read}
use mathlib.Core.List.{IsPrefix}
use Rattle.desk.specs.Behind.{IsAnswered}
use Rattle.desk.specs.Courses.{TellsEdit}
use Rattle.desk.specs.Replies as alone
use Rattle.edits.specs.declared.content.Edit.{Edit}
use Rattle.history.proofs.EventLemmas.{accepted-append, edits_accepted}
use Rattle.history.proofs.LegalLemmas.{legal_accepted}
use Rattle.history.proofs.RepeatLemmas.{is_repeated, repeats_still}
use Rattle.history.specs.Accepted.{accepted, edit_of, edits_of}
use Rattle.history.specs.After.{after_edit, go_on}
use Rattle.history.specs.Events.{Event, History}
use Rattle.history.specs.Legal.{IsLegal}
use Rattle.history.specs.Verdicts.{Accepts, Refuses, Repeats, Verdict, record_of, verdict}
use Rattle.http_api.specs.declared.asks.Ask.TheVariants as asks
use Rattle.office_inputs.specs.declared.refusals.Refusal.TheVariants.{JournalFault}
use Rattle.shared_office.proofs.TaskLemmas.{events_more, events_on}
use Rattle.shared_office.specs.Entries.{events_in, history_of, with_events}
use Rattle.shared_office.specs.Holdings.{Holding}
use Rattle.shared_office.specs.Passing.{adding}
use Rattle.shared_office.specs.declared.entries.Entry.{Entry}
use Rattle.shared_office.specs.declared.entries.Fixed.{Fixed}

edits_more : (first second : List Event) → edits_of (first ++ second) ≡ edits_of first ++ edits_of second
edits_more first second = ap (map edit_of) (accepted-append first second) ∙ map-append edit_of (accepted first) (accepted second)

-- the edits of each list that goes on from what a holding left
edits_later : (fixed : Fixed) (from later : List Entry) (added : List Event) (more : List Entry) → with_events from added ++ more ≡ later
    → edits_of (history_of fixed later).events ≡ edits_of (events_in from ++ added) ++ edits_of (events_in more)
edits_later fixed from later added more is =
    ap (λ (l : List Entry). edits_of (events_in l)) (sym is)
    ∙ ap edits_of (events_on (with_events from added) more ∙ ap (λ (l : List Event). l ++ events_in more) (events_more from added))
    ∙ edits_more (events_in from ++ added) (events_in more)

-- an edit that was just accepted has the next number
accepted_is_next : (h : History) (edit : Edit) → IsLegal h → verdict h edit ≡ Accepts
    → verdict (after_edit h edit) edit ≡ Repeats (length (accepted h.events) + 1)
accepted_is_next h edit legal is =
    let edits = edits_of h.events in
    let long = length-append edits (edit ∷ []) in
    let last : slice_get (edits ++ edit ∷ []) (length edits) ≡ Some edit =
    slice_get_read (edits ++ edit ∷ []) (length (edits ++ edit ∷ [])) (length edits) edit refl (omega (arith, long))
    (sym (get_or_push edits edit edit (length edits) refl)) in
    let count : length (accepted h.events) ≡ length edits = sym (length-map (accepted h.events) edit_of) in
    let place : slice_get (edits_of (after_edit h edit).events) (length (accepted h.events)) ≡ Some edit =
    ap (λ (l : List Edit). slice_get l (length (accepted h.events))) (edits_accepted h.events (record_of h edit))
    ∙ ap (slice_get (edits ++ edit ∷ [])) count ∙ last in
    is_repeated (after_edit h edit) (length (accepted h.events)) edit (legal_accepted h edit legal is) place

module _ (fixed : Fixed) (edit : Edit) (reply : List ℕ) (from later : List Entry) (added : List Event) (legal : IsLegal (history_of fixed from))
    (on : IsPrefix (with_events from added) later) where
  -- what had happened when the holding began
  abbrev begun : History
  begun = history_of fixed from

  -- an edit that comes again by the history that the holding left does so by each later one
  comes_again : (number : ℕ) → verdict (go_on begun added) edit ≡ Repeats number → verdict (history_of fixed later) edit ≡ Repeats number
  comes_again number is =
      repeats_still (go_on begun added) (history_of fixed later) (edits_of (events_in on.0)) edit number
      (edits_later fixed from later added on.0 on.1) is

  by_verdict : (said : Verdict) → verdict begun edit ≡ said → reply ≡ alone.edit_reply said (length (accepted begun.events) + 1)
      → go_on begun added ≡ alone.history_by said begun edit → TellsEdit (edits_of begun.events) edit reply (history_of fixed later)
  by_verdict (Repeats earlier) is told next =
      inl (
        record { number = earlier; repeated = true },
        told,
        comes_again earlier (ap (λ (h : History). verdict h edit) next ∙ is),
        λ first. absurd (false≢true (sym first)),
      )
  by_verdict (Refuses refusal) is told next = inr (inl (refusal, told))
  by_verdict Accepts is told next =
      inl (
        record { number = length (accepted begun.events) + 1; repeated = false },
        told,
        comes_again (length (accepted begun.events) + 1)
            (ap (λ (h : History). verdict h edit) next ∙ accepted_is_next begun edit legal is),
        λ first. ap (λ (n : ℕ). n + 1) (sym (length-map (accepted begun.events) edit_of)),
      )

  by_answer : alone.IsAnswered begun (asks.Edit edit) reply (go_on begun added) → TellsEdit (edits_of begun.events) edit reply (history_of fixed later)
  by_answer (inl due) = by_verdict (verdict begun edit) refl due.0 due.1
  by_answer (inr (inl fails)) = inr (inl (JournalFault fails.0, fails.1))
  by_answer (inr (inr left)) = inr (inr left.0)

pub edit_stays_behind : (fixed : Fixed) (edit : Edit) (reply : List ℕ) (holdings : List (Holding (List Entry)))
    → IsAnswered fixed (asks.Edit edit) reply holdings
    → (x : Holding (List Entry)) × (holdings ≡ x ∷ []) × ((later : List Entry) → IsLegal (history_of fixed x.from) → IsPrefix x.to later
    → TellsEdit (edits_of (events_in x.from)) edit reply (history_of fixed later))
edit_stays_behind fixed edit reply holdings is =
    (adding is.0 is.1, is.2, λ later legal on. by_answer fixed edit reply is.0 later is.1 legal on is.3)
