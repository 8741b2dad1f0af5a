-- A legal history stays legal with one event more, where that event may come; so does that of an office that is opened again, with the
-- record in doubt and without it.
use Rattle.std.specs.Prelude.{◌≡◌, true, List, [], ◌∷◌, ◌++◌, length, map, reverse, Option, Some, ◌⊎◌, ℤ}
use Rattle.std.proofs.Common.{refl, ap, sym, subst, ◌∙◌, inl, inr}
use Rattle.std.proofs.lemmas.List.{append-nil, append_assoc, map-append, reverse-append, reverse-reverse}
use Rattle.approval.specs.Statuses.{first_approved, objection_of}
use Rattle.approval.specs.declared.objections.Objection.{Objection}
use Rattle.edits.specs.declared.content.Edit.{Edit}
use Rattle.fixed_units.specs.Quantities.{SiteNumber}
use Rattle.history.specs.Accepted.{accepted, edit_of, named}
use Rattle.history.specs.After.{MayLeaveInDoubt, after_edit, doubt, doubt_back, go_on, left_by, reopen}
use Rattle.history.specs.Awaited.{is_pending}
use Rattle.history.specs.Events.{Event, Accepted, Published, Faulted, History}
use Rattle.history.specs.Legal.{IsLegal, IsMade, IsOrderly, MayBeKept}
use Rattle.history.specs.Statuses.{standing_of}
use Rattle.history.specs.Verdicts.{Accepts, record_of, verdict}
use Rattle.history.specs.declared.recorded.NotKept.{NotKept}
use Rattle.history.specs.declared.recorded.NotKept.TheVariants as not_kept
use Rattle.history.proofs.ApprovalLemmas.{made_sheets}
use Rattle.history.proofs.EventLemmas.{accepted_all, accepted_published, accepted_faulted}
use Rattle.history.proofs.VerdictLemmas.{accepted_parts}
use Rattle.office_inputs.specs.Refusals as inputs
use Rattle.office_inputs.specs.Changes.{changed_days}
use Rattle.office_inputs.specs.Stations.{stations_of}
use Rattle.office_inputs.specs.declared.limits.Limits.{Limits}
use Rattle.records.specs.Sheets.{Record}
use Rattle.records.specs.declared.formats.Format.{Format}

-- an event stands last, or among the others
abbrev Split : List Event → Event → List Event → Event → List Event → Type 0
Split events e before x after = ((before ≡ events) × (x ≡ e)) ⊎ ((rest : List Event) × (events ≡ before ++ x ∷ rest))

-- the first event of some, or this one, and those behind it
unfoldable pub head_of : Event → List Event → Event
head_of e [] = e
head_of e (x ∷ xs) = x

unfoldable pub tail_of : List Event → List Event
tail_of [] = []
tail_of (x ∷ xs) = xs

pub not_nil : (xs : List Event) (x : Event) (ys : List Event) → [] ≡ xs ++ x ∷ ys → ⊥
not_nil [] x ys h = cc h
not_nil (y ∷ xs) x ys h = cc h

split_last : (events : List Event) (e : Event) (before : List Event) (x : Event) (after : List Event) → events ++ e ∷ [] ≡ before ++ x ∷ after
    → Split events e before x after
unfolding head_of tail_of
split_last [] e [] x after h = inl (refl, sym (ap (head_of e) h))
split_last [] e (b ∷ before) x after h = absurd (not_nil before x after (ap tail_of h))
split_last (y ∷ events) e [] x after h = inr (events, ap (λ z. z ∷ events) (ap (head_of e) h))
split_last (y ∷ events) e (b ∷ before) x after h =
    let first : y ≡ b = ap (head_of e) h in
    elim (split_last events e before x after (ap tail_of h)) [
      | inl p ↦ inl (ap (λ l. b ∷ l) p.0 ∙ ap (λ z. z ∷ events) (sym first), p.1)
      | inr q ↦ inr (q.0, ap (λ z. z ∷ events) first ∙ ap (λ l. b ∷ l) q.1)
    ]

-- the objection to an edit, and the approved day that it would change, behind these edits
abbrev objection_by : List Edit → Edit → Option Objection
objection_by edits edit = objection_of (λ day. (standing_of edits edit.site day).status) edit.by edit.what

abbrev locked_by : List Edit → Edit → Option ℤ
locked_by edits edit = first_approved (λ day. (standing_of edits edit.site day).status) (changed_days (stations_of edits) edit)

-- whether a record may be kept hangs on the edits accepted before
pub may_be_kept_by : (limits : Limits) (format : Format) (a b : List Event) (piece : Record) → accepted a ≡ accepted b → MayBeKept limits format a piece → MayBeKept limits format b piece
may_be_kept_by limits format a b piece e m = record {
  sheets = m.sheets;
  reference = ap (λ (ps : List Record). named (map edit_of ps) piece.edit.reference) (sym e) ∙ m.reference;
  stations = ap (λ (ps : List Record). inputs.refusal_of limits (stations_of (map edit_of ps)) piece.edit) (sym e) ∙ m.stations;
  statuses = ap (λ (ps : List Record). objection_by (map edit_of ps) piece.edit) (sym e) ∙ m.statuses;
  unlocked = ap (λ (ps : List Record). locked_by (map edit_of ps) piece.edit) (sym e) ∙ m.unlocked;
  holds = m.holds;
}

-- what the event has to keep to, to be in order
pub record MayCome (h : History) (e : Event) : Type 0 where
  pub accepted : (piece : Record) → Accepted piece ≡ e → MayBeKept h.limits h.format h.events piece
  pub in_doubt : (piece : Record) → Faulted (Some piece) ≡ e → MayBeKept h.limits h.format h.events piece
  pub publication : (site : SiteNumber) (day : ℤ) → Published site day ≡ e → is_pending h.events site day ≡ true

-- and to come since the opening
pub record MayComeNow (h : History) (e : Event) : Type 0 where
  pub orderly : MayCome h e
  pub made : (piece : Record) → Accepted piece ≡ e → IsMade h.events piece

-- the events that may come: the acceptance of a record, a publication, a fault
pub may_accept : (h : History) (piece : Record) → MayBeKept h.limits h.format h.events piece → MayCome h (Accepted piece)
may_accept h piece m = record {
  accepted = λ other e. let same : other ≡ piece = cc in subst (MayBeKept h.limits h.format h.events) (sym same) m;
  in_doubt = λ other e. absurd (cc);
  publication = λ site day e. absurd (cc);
}

pub may_accept_now : (h : History) (piece : Record) → MayBeKept h.limits h.format h.events piece → IsMade h.events piece → MayComeNow h (Accepted piece)
may_accept_now h piece m k = record {
  orderly = may_accept h piece m;
  made = λ other e. let same : other ≡ piece = cc in subst (IsMade h.events) (sym same) k;
}

publication_may_come : (h : History) (site : SiteNumber) (day : ℤ) → is_pending h.events site day ≡ true → MayCome h (Published site day)
publication_may_come h site day pending = record {
  accepted = λ piece e. absurd (cc);
  in_doubt = λ piece e. absurd (cc);
  publication = λ s d e.
      let own : s ≡ site = cc in
      let its : d ≡ day = cc in
      rw (own, its) pending;
}

pub may_publish : (h : History) (site : SiteNumber) (day : ℤ) → is_pending h.events site day ≡ true → MayComeNow h (Published site day)
may_publish h site day pending = record { orderly = publication_may_come h site day pending; made = λ piece e. absurd (cc) }

fault_may_come : (h : History) (left : Option Record) → ((piece : Record) → left ≡ Some piece → MayBeKept h.limits h.format h.events piece) → MayCome h (Faulted left)
fault_may_come h left m = record {
  accepted = λ piece e. absurd (cc);
  in_doubt = λ piece e. let same : left ≡ Some piece = cc in m piece same;
  publication = λ site day e. absurd (cc);
}

pub may_fault : (h : History) (left : Option Record) → ((piece : Record) → left ≡ Some piece → MayBeKept h.limits h.format h.events piece) → MayComeNow h (Faulted left)
may_fault h left m = record { orderly = fault_may_come h left m; made = λ piece e. absurd (cc) }

goes_on : (h : History) (first : List Record) (since : List Event) (e : Event) → h ≡ go_on (reopen h.limits h.format first) since
    → go_on h (e ∷ []) ≡ go_on (reopen h.limits h.format first) (since ++ e ∷ [])
goes_on h first since e k =
    let opened : h.opened ≡ length first = ap (λ (x : History). x.opened) k in
    let events : h.events ≡ map Accepted first ++ since = ap (λ (x : History). x.events) k in
    ap (λ n. record { opened = n; limits = h.limits; format = h.format; events = h.events ++ e ∷ [] }) opened
    ∙ ap (λ (l : List Event). record { opened = length first; limits = h.limits; format = h.format; events = l }) (ap (λ l. l ++ e ∷ []) events ∙ append_assoc (map Accepted first) since (e ∷ []))

orderly_more : (h : History) (e : Event) → IsOrderly h.limits h.format h.events → MayCome h e → IsOrderly h.limits h.format (h.events ++ e ∷ [])
orderly_more h e k m = record {
  accepted = λ before after piece s. elim (split_last h.events e before (Accepted piece) after s) [
    | inl p ↦ subst (λ (l : List Event). MayBeKept h.limits h.format l piece) (sym p.0) (m.accepted piece p.1)
    | inr q ↦ k.accepted before q.0 piece q.1
  ];
  doubts = λ before after piece s. elim (split_last h.events e before (Faulted (Some piece)) after s) [
    | inl p ↦ subst (λ (l : List Event). MayBeKept h.limits h.format l piece) (sym p.0) (m.in_doubt piece p.1)
    | inr q ↦ k.doubts before q.0 piece q.1
  ];
  publications = λ before after site day s. elim (split_last h.events e before (Published site day) after s) [
    | inl p ↦ ap (λ l. is_pending l site day) p.0 ∙ m.publication site day p.1
    | inr q ↦ k.publications before q.0 site day q.1
  ];
}

-- the events of a history that was opened
since_are : (h : History) (first : List Record) (since : List Event) → h ≡ go_on (reopen h.limits h.format first) since → map Accepted first ++ since ≡ h.events
since_are h first since k = sym (ap (λ (x : History). x.events) k)

pub legal_more : (h : History) (e : Event) → IsLegal h → MayComeNow h e → IsLegal (go_on h (e ∷ []))
legal_more h e k m = record {
  first = k.first;
  since = k.since ++ e ∷ [];
  opened = goes_on h k.first k.since e k.opened;
  orderly = orderly_more h e k.orderly m.orderly;
  made = λ before after piece s. elim (split_last k.since e before (Accepted piece) after s) [
    | inl p ↦
        subst (λ (l : List Event). IsMade l piece)
        (sym (ap (λ (l : List Event). map Accepted k.first ++ l) p.0 ∙ since_are h k.first k.since k.opened)) (m.made piece p.1)
    | inr q ↦ k.made before q.0 piece q.1
  ];
}

-- nothing was accepted since
none_made : (first : List Record) (before after : List Event) (piece : Record) → [] ≡ before ++ Accepted piece ∷ after → IsMade (map Accepted first ++ before) piece
none_made first before after piece s = absurd (not_nil before (Accepted piece) after s)

-- an office that is opened on records that are in order
pub legal_reopened : (limits : Limits) (format : Format) (pieces : List Record) → IsOrderly limits format (map Accepted pieces) → IsLegal (reopen limits format pieces)
legal_reopened limits format pieces k = record {
  first = pieces;
  since = [];
  opened = ap (λ (l : List Event). record { opened = length pieces; limits = limits; format = format; events = l }) (sym (append-nil (map Accepted pieces)));
  orderly = k;
  made = λ before after piece s. none_made pieces before after piece s;
}

-- where a record was accepted that is accepted again
record WasAccepted (events before : List Event) (piece : Record) : Type 0 where
  older : List Event
  newer : List Event
  events_are : events ≡ older ++ Accepted piece ∷ newer
  as_many : accepted older ≡ accepted before

was_accepted : (events before after : List Event) (piece : Record) → map Accepted (accepted events) ≡ before ++ Accepted piece ∷ after → WasAccepted events before piece
unfolding head_of tail_of
was_accepted [] before after piece s = absurd (not_nil before (Accepted piece) after s)
was_accepted (Accepted own ∷ events) [] after piece s =
    let same : Accepted own ≡ Accepted piece = ap (head_of (Accepted own)) s in
    record { older = []; newer = events; events_are = ap (λ (x : Event). x ∷ events) same; as_many = refl }
was_accepted (Accepted own ∷ events) (x ∷ before) after piece s =
    let same : Accepted own ≡ x = ap (head_of (Accepted own)) s in
    let rest = was_accepted events before after piece (ap tail_of s) in
    record {
      older = Accepted own ∷ rest.older;
      newer = rest.newer;
      events_are = ap (λ (l : List Event). Accepted own ∷ l) rest.events_are;
      as_many = ap (λ (l : List Record). own ∷ l) rest.as_many ∙ ap (λ (y : Event). accepted (y ∷ before)) same;
    }
was_accepted (Published site day ∷ events) before after piece s =
    let rest = was_accepted events before after piece s in
    record {
      older = Published site day ∷ rest.older;
      newer = rest.newer;
      events_are = ap (λ (l : List Event). Published site day ∷ l) rest.events_are;
      as_many = rest.as_many;
    }
was_accepted (Faulted left ∷ events) before after piece s =
    let rest = was_accepted events before after piece s in
    record {
      older = Faulted left ∷ rest.older;
      newer = rest.newer;
      events_are = ap (λ (l : List Event). Faulted left ∷ l) rest.events_are;
      as_many = rest.as_many;
    }

-- nothing else is among accepted records
no_fault : (pieces : List Record) (before after : List Event) (left : Option Record) → map Accepted pieces ≡ before ++ Faulted left ∷ after → ⊥
unfolding head_of tail_of
no_fault [] before after left s = not_nil before (Faulted left) after s
no_fault (own ∷ pieces) [] after left s = let same : Accepted own ≡ Faulted left = ap (head_of (Accepted own)) s in cc
no_fault (own ∷ pieces) (x ∷ before) after left s = no_fault pieces before after left (ap tail_of s)

no_publication : (pieces : List Record) (before after : List Event) (site : SiteNumber) (day : ℤ) → map Accepted pieces ≡ before ++ Published site day ∷ after → ⊥
unfolding head_of tail_of
no_publication [] before after site day s = not_nil before (Published site day) after s
no_publication (own ∷ pieces) [] after site day s = let same : Accepted own ≡ Published site day = ap (head_of (Accepted own)) s in cc
no_publication (own ∷ pieces) (x ∷ before) after site day s = no_publication pieces before after site day (ap tail_of s)

-- the edits that were accepted up to some point are in order
orderly_front : (h : History) (events behind : List Event) → IsLegal h → h.events ≡ events ++ behind → IsOrderly h.limits h.format (map Accepted (accepted events))
orderly_front h events behind k e = record {
  accepted = λ before after piece s.
      let was = was_accepted events before after piece s in
      may_be_kept_by h.limits h.format was.older before piece was.as_many
      (k.orderly.accepted was.older (was.newer ++ behind) piece
      (e ∙ ap (λ (l : List Event). l ++ behind) was.events_are ∙ append_assoc was.older (Accepted piece ∷ was.newer) behind));
  doubts = λ before after piece s. absurd (no_fault (accepted events) before after (Some piece) s);
  publications = λ before after site day s. absurd (no_publication (accepted events) before after site day s);
}

-- an office that is opened on them
pub legal_front : (h : History) (events behind : List Event) → IsLegal h → h.events ≡ events ++ behind → IsLegal (reopen h.limits h.format (accepted events))
legal_front h events behind k e = legal_reopened h.limits h.format (accepted events) (orderly_front h events behind k e)

-- on these and one record more
pub legal_with : (h : History) (events behind : List Event) (piece : Record) → IsLegal h → h.events ≡ events ++ behind → MayBeKept h.limits h.format events piece
    → IsLegal (reopen h.limits h.format (accepted events ++ piece ∷ []))
legal_with h events behind piece k e m =
    let again = reopen h.limits h.format (accepted events) in
    let kept : MayBeKept h.limits h.format again.events piece = may_be_kept_by h.limits h.format events again.events piece (sym (accepted_all (accepted events))) m in
    legal_reopened h.limits h.format (accepted events ++ piece ∷ [])
    (subst (IsOrderly h.limits h.format) (sym (map-append Accepted (accepted events) (piece ∷ [])))
    (orderly_more again (Accepted piece) (orderly_front h events behind k e) (may_accept again piece kept)))

-- where the fault came that left the record in doubt: no edit was accepted since
record WasLeft (back : List Event) (piece : Record) : Type 0 where
  older : List Event
  newer : List Event
  events_are : reverse back ≡ older ++ Faulted (Some piece) ∷ newer
  as_many : accepted older ≡ accepted (reverse back)

was_left : (back : List Event) (piece : Record) → doubt_back back ≡ Some piece → WasLeft back piece
unfolding doubt_back
was_left [] piece h = absurd (cc)
was_left (Accepted own ∷ back) piece h = absurd (cc)
was_left (Published site day ∷ back) piece h =
    let rest = was_left back piece h in
    let turned : reverse (Published site day ∷ back) ≡ reverse back ++ Published site day ∷ [] = reverse-append (Published site day ∷ []) back in
    record {
      older = rest.older;
      newer = rest.newer ++ Published site day ∷ [];
      events_are =
          turned ∙ ap (λ (l : List Event). l ++ Published site day ∷ []) rest.events_are
          ∙ append_assoc rest.older (Faulted (Some piece) ∷ rest.newer) (Published site day ∷ []);
      as_many = rest.as_many ∙ sym (accepted_published (reverse back) site day) ∙ ap accepted (sym turned);
    }
was_left (Faulted left ∷ back) piece h =
    let turned : reverse (Faulted left ∷ back) ≡ reverse back ++ Faulted left ∷ [] = reverse-append (Faulted left ∷ []) back in
    record {
      older = reverse back;
      newer = [];
      events_are = turned ∙ ap (λ (o : Option Record). reverse back ++ Faulted o ∷ []) h;
      as_many = sym (accepted_faulted (reverse back) left) ∙ ap accepted (sym turned);
    }

-- the record that a history was in doubt of at some point could still be kept there
pub front_may_be_kept : (h : History) (events behind : List Event) → IsLegal h → h.events ≡ events ++ behind
    → (piece : Record) → doubt_back (reverse events) ≡ Some piece → MayBeKept h.limits h.format events piece
front_may_be_kept h events behind k e piece d =
    let was = was_left (reverse events) piece d in
    let same : reverse (reverse events) ≡ events = reverse-reverse events in
    may_be_kept_by h.limits h.format was.older events piece (was.as_many ∙ ap accepted same)
    (k.orderly.doubts was.older (was.newer ++ behind) piece
    (e ∙ ap (λ (l : List Event). l ++ behind) (sym same ∙ was.events_are) ∙ append_assoc was.older (Faulted (Some piece) ∷ was.newer) behind))

pub doubt_may_be_kept : (h : History) (piece : Record) → doubt h ≡ Some piece → IsLegal h → MayBeKept h.limits h.format h.events piece
doubt_may_be_kept h piece d k = front_may_be_kept h h.events [] k (sym (append-nil h.events)) piece d

-- the record of an edit that is accepted
pub accepted_may_be_kept : (h : History) (edit : Edit) → verdict h edit ≡ Accepts → MayBeKept h.limits h.format h.events (record_of h edit)
accepted_may_be_kept h edit v =
    let parts = accepted_parts h edit v in
    record {
      sheets = made_sheets h.events edit.site edit.what edit.lawful;
      reference = parts.new;
      stations = parts.stations;
      statuses = parts.statuses;
      unlocked = parts.unlocked;
      holds = parts.comment;
    }

-- and it is made there
pub accepted_is_made : (h : History) (edit : Edit) → verdict h edit ≡ Accepts → IsMade h.events (record_of h edit)
accepted_is_made h edit v = record { awaits_none = (accepted_parts h edit v).awaits_none; sheets = refl }

pub legal_accepted : (h : History) (edit : Edit) → IsLegal h → verdict h edit ≡ Accepts → IsLegal (after_edit h edit)
legal_accepted h edit k v =
    legal_more h (Accepted (record_of h edit)) k (may_accept_now h (record_of h edit) (accepted_may_be_kept h edit v) (accepted_is_made h edit v))

-- what a fault leaves the journal in doubt of
left_step : (h : History) (edit : Edit) (failed : NotKept) → verdict h edit ≡ Accepts → IsLegal h
    → (piece : Record) → left_by (doubt h) (record_of h edit) failed ≡ Some piece → MayBeKept h.limits h.format h.events piece
left_step h edit not_kept.Mend v k piece e = doubt_may_be_kept h piece e k
left_step h edit not_kept.Record v k piece e = absurd (cc)
left_step h edit not_kept.Gate v k piece e =
    let same : record_of h edit ≡ piece = cc in
    subst (MayBeKept h.limits h.format h.events) same (accepted_may_be_kept h edit v)

pub left_may_be_kept : (h : History) (edit : Edit) (left : Option Record) → verdict h edit ≡ Accepts → IsLegal h → MayLeaveInDoubt h edit left
    → (piece : Record) → left ≡ Some piece → MayBeKept h.limits h.format h.events piece
left_may_be_kept h edit left v k m piece e = left_step h edit m.0 v k piece (sym m.1 ∙ e)
