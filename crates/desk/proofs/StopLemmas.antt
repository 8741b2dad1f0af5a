-- What a stop in a course of steps leaves is opened by one step more.
use Rattle.std.specs.Prelude.{◌≡◌, ◌⊎◌, ℕ, ◌≤◌, List, [], ◌∷◌, ◌++◌, length, map, All, Option, Some}
use Rattle.std.proofs.Common.{refl, ap, sym, subst, ◌∙◌, inl, inr, append-nil, append_assoc}
use Rattle.std.proofs.lemmas.List.{append_cancel_left}
use Rattle.std.proofs.lemmas.List.Elements.{All-head, All-tail}
use Rattle.desk.proofs.CourseLemmas.{at_history}
use Rattle.desk.specs.Courses.{cut_before}
use Rattle.shared_office.proofs.PassageLemmas.{go_on_none}
use Rattle.edits.specs.declared.content.Edit.{Edit}
use Rattle.history.specs.Accepted.{accepted}
use Rattle.history.specs.After.{go_on, publication, reopen}
use Rattle.history.specs.Events.{Event, Accepted, Faulted, History}
use Rattle.history.specs.Legal.{IsLegal}
use Rattle.history.specs.Verdicts.{record_of}
use Rattle.journal.proofs.Walks.{one_list}
use Rattle.journal.specs.JournalBytes.{IsJournalOf}
use Rattle.office.proofs.CourseLemmas.{call_course, legal_steps}
use Rattle.office.proofs.LeftLemmas.{may_open_between}
use Rattle.office.proofs.StepLemmas.{Course, Still, Taken, Failed, Shown}
use Rattle.office.proofs.StopLemmas.{stopped_between, stopped_inside}
use Rattle.office.specs.Openings.{IsOpened}
use Rattle.office.specs.Steps.{Step, AStop, GoesOver, IsCall, IsStep, added_by, cut_off}
use Rattle.office.specs.Stops.{IsLeft, IsLeftBefore, IsLeftBetween}
use Rattle.office_inputs.specs.declared.limits.Limits.{Limits}
use Rattle.records.specs.Sheets.{Record}
use Rattle.register.specs.Registered.{NoneOut, Registered}

-- a history goes on by these events
pub record GoesOn (h next : History) : Type 0 where
  pub events : List Event
  pub is : next ≡ go_on h events

goes_on_by : (h : History) (asked : Option Edit) (edits : List Edit) (next : History) → Course h asked edits next → GoesOn h next
goes_on_by h asked edits next (Still e is) = record { events = []; is = is ∙ sym (go_on_none h) }
goes_on_by h asked edits next (Taken edit its e v is) = record { events = Accepted (record_of h edit) ∷ []; is = is }
goes_on_by h asked edits next (Failed edit left its e v may is) = record { events = Faulted left ∷ []; is = is }
goes_on_by h asked edits next (Shown days e p is) = record { events = map publication days; is = is }

goes_on_further : (h mid next : History) → GoesOn h mid → GoesOn mid next → GoesOn h next
goes_on_further h mid next first rest = record {
  events = first.events ++ rest.events;
  is =
      rest.is ∙ ap (λ (x : History). go_on x rest.events) first.is
      ∙ ap (λ (l : List Event). record { opened = h.opened; limits = h.limits; format = h.format; events = l }) (append_assoc h.events first.events rest.events);
}

step_goes_on : (old : Registered) (step : Step) (new : Registered) → IsCall step → IsStep old step new → GoesOn old.history new.history
step_goes_on old step new call is =
    goes_on_by old.history (cut_off step) (added_by step) new.history (call_course old step new call is)

pub steps_go_on : (old : Registered) (steps : List Step) (new : Registered) → All IsCall steps → GoesOver old steps new → GoesOn old.history new.history
steps_go_on old [] new calls over =
    record { events = []; is = ap (λ (r : Registered). r.history) over ∙ sym (go_on_none old.history) }
steps_go_on old (step ∷ steps) new calls over =
    goes_on_further old.history over.0.history new.history
    (step_goes_on old step over.0 (All-head IsCall step steps calls) over.1)
    (steps_go_on over.0 steps new (All-tail IsCall step steps calls) over.2)

-- Two ways to part a list: the one ends before the other, or it does not.
abbrev EndsBefore : List Event → List Event → List Event → List Event → Type 0
EndsBefore own more since behind =
    (event : Event) × (rest : List Event) × (own ≡ since ++ event ∷ rest) × (behind ≡ event ∷ (rest ++ more))

abbrev GoesBehind : List Event → List Event → List Event → List Event → Type 0
GoesBehind own more since behind = (rest : List Event) × (since ≡ own ++ rest) × (more ≡ rest ++ behind)

two_parts : (own more since behind : List Event) → own ++ more ≡ since ++ behind → EndsBefore own more since behind ⊎ GoesBehind own more since behind
two_parts [] more since behind e = inr (since, refl, e)
two_parts (o ∷ own) more [] behind e = inl (o, own, refl, sym e)
two_parts (o ∷ own) more (s ∷ since) behind e =
    let same : o ≡ s = cc in
    let rest : own ++ more ≡ since ++ behind = append_cancel_left (o ∷ []) (own ++ more) (since ++ behind) (e ∙ ap (λ (x : Event). x ∷ (since ++ behind)) (sym same)) in
    elim (two_parts own more since behind rest) [
      | inl before ↦ inl (before.0, before.1, ap (λ (l : List Event). o ∷ l) before.2 ∙ ap (λ (x : Event). x ∷ (since ++ before.0 ∷ before.1)) same, before.3)
      | inr later ↦
          inr (later.0, ap (λ (x : Event). x ∷ since) (sym same) ∙ ap (λ (l : List Event). o ∷ l) later.1, later.2)
    ]

-- what is left before some events hangs on the first of them
left_sooner : (h : History) (event : Event) (behind other : List Event) (image : List ℕ) → IsLeftBefore h (event ∷ behind) image
    → IsLeftBefore h (event ∷ other) image
left_sooner h event behind other image left = left

nothing_more : (since behind : List Event) → [] ≡ since ++ behind → (since ≡ []) × (behind ≡ [])
nothing_more [] behind e = (refl, sym e)
nothing_more (s ∷ since) behind e = absurd (cc)

-- where nothing has happened, what is left on the way is left there
left_there : (h : History) (since behind : List Event) (image : List ℕ) → [] ≡ since ++ behind → IsLeftBefore (go_on h since) behind image → IsLeft h image
left_there h since behind image e left =
    let both = nothing_more since behind e in
    subst (λ (x : History). IsLeft x image) (ap (go_on h) both.0 ∙ go_on_none h)
    (subst (λ (l : List Event). IsLeftBefore (go_on h since) l image) both.1 left)

-- a stop behind some of the steps and before the others, inside the first of these where it has a call to cut off, and the opening behind it
pub record Stopped (old : Registered) (steps : List Step) (register : Registered) : Type 0 where
  pub before : List Step
  pub behind : List Step
  pub found : Option Record
  pub parts : steps ≡ before ++ behind
  pub over : GoesOver old (before ++ AStop (cut_before behind) found ∷ []) register

stopped_behind : (old : Registered) (step : Step) (steps : List Step) (next register : Registered) → IsStep old step next
    → Stopped next steps register → Stopped old (step ∷ steps) register
stopped_behind old step steps next register is rest = record {
  before = step ∷ rest.before;
  behind = rest.behind;
  found = rest.found;
  parts = ap (λ (l : List Step). step ∷ l) rest.parts;
  over = (next, is, rest.over);
}

stopped_now : (old : Registered) (steps : List Step) (register : Registered)
    → (found : Option Record) × IsStep old (AStop (cut_before steps) found) register → Stopped old steps register
stopped_now old steps register is =
    record { before = []; behind = steps; found = is.0; parts = refl; over = (register, is.1, refl) }

went_on : (h : History) (since behind : List Event) → go_on h (since ++ behind) ≡ go_on (go_on h since) behind
went_on h since behind =
    ap (λ (l : List Event). record { opened = h.opened; limits = h.limits; format = h.format; events = l }) (sym (append_assoc h.events since behind))

module _ (register : Registered) (image : List ℕ) where
  stopped_first : (old new : Registered) → GoesOver old [] new → IsLeftBetween old.history new.history image
      → IsOpened (Some image) old.history.limits register → Stopped old [] register
  stopped_first old new over left opened =
      let whole : old.history.events ++ [] ≡ old.history.events ++ (left.since ++ left.behind) =
      append-nil old.history.events ∙ sym (ap (λ (r : Registered). r.history.events) over) ∙ left.after_is
      ∙ append_assoc old.history.events left.since left.behind in
      let none : [] ≡ left.since ++ left.behind = append_cancel_left old.history.events [] (left.since ++ left.behind) whole in
      stopped_now old [] register (stopped_between old register image (left_there old.history left.since left.behind image none left.left) opened)

  -- the steps of a course, and how the history goes on by the first and by the others
  module _ (old next new : Registered) (step : Step) (own : GoesOn old.history next.history) (more : GoesOn next.history new.history)
      (left : IsLeftBetween old.history new.history image) where
    all_events : own.events ++ more.events ≡ left.since ++ left.behind
    all_events =
        append_cancel_left old.history.events (own.events ++ more.events) (left.since ++ left.behind)
        (sym (append_assoc old.history.events own.events more.events)
        ∙ sym (ap (λ (h : History). h.events) more.is ∙ ap (λ (h : History). h.events ++ more.events) own.is)
        ∙ left.after_is ∙ append_assoc old.history.events left.since left.behind)

    within : EndsBefore own.events more.events left.since left.behind → IsLeftBetween old.history next.history image
    within before = record {
      since = left.since;
      behind = before.0 ∷ before.1;
      after_is =
          ap (λ (h : History). h.events) own.is ∙ ap (λ (l : List Event). old.history.events ++ l) before.2
          ∙ sym (append_assoc old.history.events left.since (before.0 ∷ before.1));
      left = subst (λ (l : List Event). IsLeftBefore (go_on old.history left.since) l image) before.3 left.left;
    }

    further : GoesBehind own.events more.events left.since left.behind → IsLeftBetween next.history new.history image
    further later = record {
      since = later.0;
      behind = left.behind;
      after_is =
          ap (λ (h : History). h.events) more.is ∙ ap (λ (l : List Event). next.history.events ++ l) later.2
          ∙ sym (append_assoc next.history.events later.0 left.behind);
      left =
          subst (λ (h : History). IsLeftBefore h left.behind image)
          (ap (go_on old.history) later.1 ∙ went_on old.history own.events later.0 ∙ ap (λ (h : History). go_on h later.0) (sym own.is))
          left.left;
    }

  stopped : (old : Registered) (steps : List Step) (new : Registered) → All IsCall steps → GoesOver old steps new
      → IsLeftBetween old.history new.history image → IsOpened (Some image) old.history.limits register → Stopped old steps register
  stopped old [] new calls over left opened = stopped_first old new over left opened
  stopped old (step ∷ steps) new calls over left opened =
      let next = over.0 in
      let call = All-head IsCall step steps calls in
      let own = step_goes_on old step next call over.1 in
      let more = steps_go_on next steps new (All-tail IsCall step steps calls) over.2 in
      elim (two_parts own.events more.events left.since left.behind (all_events old next new step own more left)) [
        | inl before ↦
            stopped_now old (step ∷ steps) register
            (stopped_inside old step next register image call over.1 (within old next new step own more left before) opened)
        | inr later ↦
            stopped_behind old step steps next register over.1
            (stopped next steps new (All-tail IsCall step steps calls) over.2 (further old next new step own more left later)
            (subst (λ (l : Limits). IsOpened (Some image) l register) (sym (ap (λ (h : History). h.limits) own.is)) opened))
      ]

-- what is left of a legal history may be opened: it is the journal of the edits that were accepted up to that point, and of at most one more
left_opens : (h after : History) (image : List ℕ) (pieces : List Record) → IsLegal after → after.limits ≡ h.limits → after.format ≡ h.format
    → (left : IsLeftBetween h after image)
    → IsJournalOf h.format pieces image
    → IsLegal (reopen h.limits h.format pieces)
    × ((more : List Record) × (length more ≤ 1) × (pieces ≡ accepted (h.events ++ left.since) ++ more))
left_opens h after image pieces legal limits format left journal =
    let o = may_open_between h after image legal limits format left in
    let are = one_list h.format pieces (accepted (h.events ++ left.since) ++ o.more) image journal o.found in
    (subst (λ (l : List Record). IsLegal (reopen h.limits h.format l)) (sym are) o.legal, (o.more, o.few, are))

-- Behind some of the steps a stop leads to the office that is opened on it, and the records that it is opened on are few more than those
-- up to that point.
pub record StopIn (old : Registered) (steps : List Step) (since : List Event) (pieces : List Record) : Type 0 where
  pub at : Stopped old steps (at_history old (reopen old.history.limits old.history.format pieces))
  pub legal : IsLegal (reopen old.history.limits old.history.format pieces)
  pub few : (more : List Record) × (length more ≤ 1) × (pieces ≡ accepted (old.history.events ++ since) ++ more)

pub stop_inside : (old : Registered) (steps : List Step) (new : Registered) (image : List ℕ) (pieces : List Record) → NoneOut old
    → IsLegal old.history → All IsCall steps → GoesOver old steps new → (left : IsLeftBetween old.history new.history image)
    → IsJournalOf old.history.format pieces image → StopIn old steps left.since pieces
stop_inside old steps new image pieces none legal calls over left journal =
    let on = (steps_go_on old steps new calls over).is in
    let limits = ap (λ (h : History). h.limits) on in
    let format = ap (λ (h : History). h.format) on in
    let opens = left_opens old.history new.history image pieces (legal_steps old steps new over legal) limits format left journal in
    let register = at_history old (reopen old.history.limits old.history.format pieces) in
    let opened : IsOpened (Some image) old.history.limits register =
    record { pieces = pieces; found = journal; reopened = refl; legal = opens.0; claims = none } in
    record { at = stopped register image old steps new calls over left opened; legal = opens.0; few = opens.1 }

-- the steps that lead to it
pub stop_in_course : (old : Registered) (steps : List Step) (new : Registered) (image : List ℕ) (pieces : List Record) → NoneOut old
    → IsLegal old.history → All IsCall steps → GoesOver old steps new → IsLeftBetween old.history new.history image
    → IsJournalOf old.history.format pieces image
    → (all : List Step) × GoesOver old all (at_history old (reopen old.history.limits old.history.format pieces)) × IsLegal (reopen old.history.limits old.history.format pieces)
stop_in_course old steps new image pieces none legal calls over left journal =
    let s = stop_inside old steps new image pieces none legal calls over left journal in
    (s.at.before ++ AStop (cut_before s.at.behind) s.at.found ∷ [], s.at.over, s.legal)
