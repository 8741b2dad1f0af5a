-- An office opens on what a stop leaves, and tells the edits that were accepted their numbers.
use Rattle.std.specs.Prelude.{◌≡◌, ℕ, ◌+◌, List, [], ◌∷◌, ◌++◌, length, map, flat_map, reverse, slice_get, Option, Some, None, option_map, IsSome, All, ℤ}
use Rattle.std.proofs.Common.{arith, refl, ap, sym, subst, inl, inr, ◌∙◌, append_assoc, length-append}
use Rattle.std.proofs.lemmas.List.{append-nil, get_or_append_left, map-append}
use Rattle.std.proofs.lemmas.List.Elements.{All-cons, All-nil}
use Rattle.std.proofs.lemmas.Option.{get_or_from_slice_get, slice_get-get_or, slice_get_within}
use Rattle.approval.specs.declared.objections.Objection.{Objection}
use Rattle.edits.specs.declared.content.Edit.{Edit}
use Rattle.history.specs.Accepted.{Numbered, accepted, edit_of, edits_of}
use Rattle.history.specs.After.{doubt, doubt_back, go_on, reopen}
use Rattle.history.specs.Events.{Event, Accepted, Published, Faulted, History}
use Rattle.history.specs.Legal.{IsLegal, MayBeKept}
use Rattle.history.specs.Verdicts.{Repeats, or_else, refused_by_stations, refused_by_statuses, refused_as_locked, verdict}
use Rattle.history.proofs.EventLemmas.{accepted_all}
use Rattle.history.proofs.LegalLemmas.{doubt_may_be_kept, front_may_be_kept, legal_front, legal_with}
use Rattle.history.proofs.RepeatLemmas.{is_repeated}
use Rattle.journal.specs.JournalBytes.{HasHeader, InGrammar, IsDamagedAt, IsJournalOf, StandsFor, block, front, header}
use Rattle.journal.proofs.Stages.{front-push}
use Rattle.journal.proofs.Walks.{GoesPast, damaged_header, goes_past, goes_past_damaged, journal_header, not_damaged, one_gate, one_header, one_list, two_walks}
use Rattle.office.specs.Openings.{IsDamagedFor, IsRefusedAt, LacksRecordAt, MayOpen}
use Rattle.office.specs.Stops.{IsLeft, IsLeftBefore, IsLeftBetween, MayFollow, in_flight}
use Rattle.office_inputs.specs.declared.limits.Limits.{Limits}
use Rattle.office_inputs.specs.Refusals as inputs
use Rattle.office_inputs.specs.declared.refusals.Refusal.{Refusal}
use Rattle.office_inputs.specs.declared.refusals.Refusal.TheVariants.{Locked}
use Rattle.records.specs.Sheets.{Record}
use Rattle.records.specs.declared.formats.Format.{Format}
use Rattle.register.specs.Asked.{readmission_refusal, reused}

module _ (h : History) (events behind : List Event) (image : List ℕ) (legal : IsLegal h) (are : h.events ≡ events ++ behind)
    (opened : ℕ) (limits : Limits) (format : Format) (kept : h.limits ≡ limits) (same_format : h.format ≡ format) (to_come : List Event) where
  abbrev point : History
  point = record { opened = opened; limits = limits; format = format; events = events }

  -- what is legal under the history's limits and in its format
  legal_there : (pieces : List Record) → IsLegal (reopen h.limits h.format pieces) → IsLegal (reopen limits format pieces)
  legal_there pieces k =
      subst (λ (f : Format). IsLegal (reopen limits f pieces)) same_format (subst (λ (l : Limits). IsLegal (reopen l h.format pieces)) kept k)

  opens_without : IsJournalOf format (accepted events) image → MayOpen point to_come image
  opens_without found =
      let same : accepted events ≡ accepted events ++ [] = sym (append-nil (accepted events)) in
      record {
        more = [];
        few = omega arith;
        which = All-nil (MayFollow point to_come);
        found = subst (λ (ps : List Record). IsJournalOf format ps image) same found;
        legal =
            legal_there (accepted events ++ [])
            (subst (λ (ps : List Record). IsLegal (reopen h.limits h.format ps)) same (legal_front h events behind legal are));
      }

  opens_with : (left : Option Record) → ((piece : Record) → left ≡ Some piece → MayBeKept h.limits h.format events piece)
      → ((piece : Record) → left ≡ Some piece → MayFollow point to_come piece) → StandsFor format (accepted events) left image → MayOpen point to_come image
  opens_with None may follows stands = opens_without stands
  opens_with (Some last) may follows stands = elim stands [
    | inl found ↦ opens_without found
    | inr found ↦ record {
      more = last ∷ [];
      few = omega arith;
      which = All-cons (MayFollow point to_come) last [] (follows last refl) (All-nil (MayFollow point to_come));
      found = found;
      legal =
          legal_there (accepted events ++ last ∷ []) (legal_with h events behind last legal are (may last refl));
    }
  ]

-- between two calls
pub may_open : (h : History) (image : List ℕ) → IsLegal h → IsLeft h image → MayOpen h [] image
may_open h image k left =
    opens_with h h.events [] image k (sym (append-nil h.events)) h.opened h.limits h.format refl refl [] (doubt h) (λ piece d. doubt_may_be_kept h piece d k) (λ piece d. d) left

-- the record that is in flight before an event of a legal history may be kept
flight_may_be_kept : (h : History) (events behind : List Event) (event : Event) → IsLegal h → h.events ≡ events ++ event ∷ behind
    → (piece : Record) → in_flight event ≡ Some piece → MayBeKept h.limits h.format events piece
flight_may_be_kept h events behind (Accepted own) k e piece i =
    let same : own ≡ piece = cc in
    subst (MayBeKept h.limits h.format events) same (k.orderly.accepted events behind own e)
flight_may_be_kept h events behind (Published site day) k e piece i = absurd (cc)
flight_may_be_kept h events behind (Faulted left) k e piece i =
    k.orderly.doubts events behind piece (e ∙ ap (λ (o : Option Record). events ++ Faulted o ∷ behind) i)

opens_before : (h : History) (events behind : List Event) (image : List ℕ) → IsLegal h → h.events ≡ events ++ behind
    → (opened : ℕ) (limits : Limits) (format : Format) → h.limits ≡ limits → h.format ≡ format
    → IsLeftBefore (record { opened = opened; limits = limits; format = format; events = events }) behind image
    → MayOpen (record { opened = opened; limits = limits; format = format; events = events }) behind image
opens_before h events [] image k e opened limits format kept same left =
    opens_with h events [] image k e opened limits format kept same [] (doubt_back (reverse events)) (front_may_be_kept h events [] k e) (λ piece d. d) left
opens_before h events (event ∷ behind) image k e opened limits format kept same left = elim left [
  | inl here ↦
      opens_with h events (event ∷ behind) image k e opened limits format kept same (event ∷ behind) (doubt_back (reverse events))
      (front_may_be_kept h events (event ∷ behind) k e) (λ piece d. inl d) here
  | inr flight ↦
      opens_with h events (event ∷ behind) image k e opened limits format kept same (event ∷ behind) (in_flight event) (flight_may_be_kept h events behind event k e)
      (λ piece i. inr i) flight
]

-- at any moment of a call
pub may_open_between : (h after : History) (image : List ℕ) → IsLegal after → after.limits ≡ h.limits → after.format ≡ h.format → (left : IsLeftBetween h after image)
    → MayOpen (go_on h left.since) left.behind image
may_open_between h after image k kept same left =
    opens_before after (h.events ++ left.since) left.behind image k left.after_is h.opened h.limits h.format kept same left.left

pub has_header : (h : History) (behind : List Event) (image : List ℕ) → MayOpen h behind image → HasHeader h.format image
has_header h behind image o = journal_header h.format (accepted h.events ++ o.more) image o.found

-- a record that may be kept is not refused among those that an office is opened with
not_refused : (limits : Limits) (format : Format) (pieces : List Record) (piece : Record) → MayBeKept limits format (map Accepted pieces) piece
    → readmission_refusal (reopen limits format pieces) piece.edit ≡ None
not_refused limits format pieces piece m =
    let h = reopen limits format pieces in
    let edit = piece.edit in
    let locked = refused_as_locked h edit in
    ap (λ (o : Option Numbered). or_else (reused o) (or_else (refused_by_stations h edit) (or_else (refused_by_statuses h edit) locked))) m.reference
    ∙ ap (λ (o : Option Refusal). or_else o (or_else (refused_by_statuses h edit) locked)) m.stations
    ∙ ap (λ (o : Option Objection). or_else (option_map inputs.refusal_for_objection o) locked) m.statuses
    ∙ ap (λ (o : Option ℤ). option_map Locked o) m.unlocked

none_and_some : (o : Option Refusal) → o ≡ None → IsSome o → ⊥
none_and_some None e some = absurd (cc)
none_and_some (Some refusal) e some = absurd (cc)

-- and none of those that an office is opened with is refused behind the ones before it
accepted_there : (limits : Limits) (format : Format) (all pieces : List Record) (piece : Record) → IsLegal (reopen limits format all)
    → GoesPast all pieces piece → IsSome (readmission_refusal (reopen limits format pieces) piece.edit) → ⊥
accepted_there limits format all pieces piece legal past refused =
    let events : map Accepted all ≡ map Accepted pieces ++ Accepted piece ∷ map Accepted past.more =
    ap (map Accepted) past.all_are ∙ map-append Accepted pieces (piece ∷ past.more) in
    let none = not_refused limits format pieces piece (legal.orderly.accepted (map Accepted pieces) (map Accepted past.more) piece events) in
    none_and_some (readmission_refusal (reopen limits format pieces) piece.edit) none refused

-- a journal that has a record which is refused begins as one of its format
refused_header : (limits : Limits) (at : ℕ) (bytes : List ℕ) → (r : IsRefusedAt limits at bytes) → HasHeader r.format bytes
refused_header limits at bytes r =
    let more = block r.format r.piece ++ r.rest in
    let records = flat_map (block r.format) r.pieces in
    (records ++ more, r.bytes_are ∙ append_assoc (header r.format) records more)

-- the bytes behind a record that is refused
pushed : (limits : Limits) (at : ℕ) (bytes : List ℕ) → (r : IsRefusedAt limits at bytes) → bytes ≡ front r.format (r.pieces ++ r.piece ∷ []) ++ r.rest
pushed limits at bytes r = r.bytes_are ∙ sym (front-push r.format r.pieces r.piece r.rest)

refused_not : (limits : Limits) (format : Format) (all : List Record) (at : ℕ) (image : List ℕ) → IsJournalOf format all image
    → IsLegal (reopen limits format all) → (r : IsRefusedAt limits at image) → r.format ≡ format → ⊥
refused_not limits format all at image found legal r same =
    accepted_there limits r.format all r.pieces r.piece (subst (λ (f : Format). IsLegal (reopen limits f all)) (sym same) legal)
    (goes_past r.format all r.pieces r.piece r.rest image (subst (λ (f : Format). IsJournalOf f all image) (sym same) found) r.grammar (pushed limits at image r))
    r.refused

-- a journal is damaged at one gate
lacks_and_refused : (limits : Limits) (at other : ℕ) (bytes : List ℕ) → LacksRecordAt limits at bytes → IsRefusedAt limits other bytes → ⊥
lacks_and_refused limits at other bytes lacks r =
    let same = one_header lacks.0 r.format bytes (damaged_header lacks.0 at bytes lacks.1) (refused_header limits other bytes r) in
    let damaged = subst (λ (f : Format). (damaged : IsDamagedAt f at bytes) × IsLegal (reopen limits f damaged.pieces)) same (lacks.1, lacks.2) in
    accepted_there limits r.format damaged.0.pieces r.pieces r.piece damaged.1
    (goes_past_damaged r.format r.pieces r.piece at r.rest bytes damaged.0 r.grammar (pushed limits other bytes r)) r.refused

one_lack : (limits : Limits) (at other : ℕ) (bytes : List ℕ) → LacksRecordAt limits at bytes → LacksRecordAt limits other bytes → at ≡ other
one_lack limits at other bytes a b =
    let same = one_header a.0 b.0 bytes (damaged_header a.0 at bytes a.1) (damaged_header b.0 other bytes b.1) in
    one_gate b.0 at other bytes (subst (λ (f : Format). IsDamagedAt f at bytes) same a.1) b.1

-- in one format
refused_in : (limits : Limits) (at other : ℕ) (bytes : List ℕ) (r : IsRefusedAt limits at bytes) (s : IsRefusedAt limits other bytes) → r.format ≡ s.format
    → at ≡ other
refused_in limits at other bytes r s same =
    let grammar = subst (λ (f : Format). All (InGrammar f) (r.pieces ++ r.piece ∷ [])) same r.grammar in
    let bytes_are = subst (λ (f : Format). bytes ≡ front f (r.pieces ++ r.piece ∷ []) ++ r.rest) same (pushed limits at bytes r) in
    let legal = subst (λ (f : Format). IsLegal (reopen limits f r.pieces)) same r.legal in
    let refused = subst (λ (f : Format). IsSome (readmission_refusal (reopen limits f r.pieces) r.piece.edit)) same r.refused in
    let place = subst (λ (f : Format). at ≡ length (front f r.pieces)) same r.place in
    elim (two_walks s.format r.pieces s.pieces r.piece s.piece r.rest s.rest bytes grammar s.grammar bytes_are (pushed limits other bytes s)) [
      | inl equal ↦ place ∙ ap (λ (l : List Record). length (front s.format l)) equal ∙ sym s.place
      | inr other_way ↦ elim other_way [
        | inl past ↦ absurd (accepted_there limits s.format r.pieces s.pieces s.piece legal past s.refused)
        | inr past ↦ absurd (accepted_there limits s.format s.pieces r.pieces r.piece s.legal past refused)
      ]
    ]

one_refused : (limits : Limits) (at other : ℕ) (bytes : List ℕ) → IsRefusedAt limits at bytes → IsRefusedAt limits other bytes → at ≡ other
one_refused limits at other bytes r s =
    refused_in limits at other bytes r s
    (one_header r.format s.format bytes (refused_header limits at bytes r) (refused_header limits other bytes s))

pub one_damage : (limits : Limits) (at other : ℕ) (bytes : List ℕ) → IsDamagedFor limits at bytes → IsDamagedFor limits other bytes → at ≡ other
one_damage limits at other bytes here there = elim here [
  | inl a ↦ elim there [
    | inl b ↦ one_lack limits at other bytes a b
    | inr s ↦ absurd (lacks_and_refused limits at other bytes a s)
  ]
  | inr r ↦ elim there [
    | inl b ↦ absurd (lacks_and_refused limits other at bytes b r)
    | inr s ↦ one_refused limits at other bytes r s
  ]
]

pub undamaged : (h : History) (behind : List Event) (image : List ℕ) (at : ℕ) → MayOpen h behind image → IsDamagedFor h.limits at image → ⊥
undamaged h behind image at o damaged =
    let all = accepted h.events ++ o.more in
    let begun = has_header h behind image o in
    elim damaged [
      | inl lacks ↦
          let same = one_header lacks.0 h.format image (damaged_header lacks.0 at image lacks.1) begun in
          not_damaged h.format all at image o.found (subst (λ (f : Format). IsDamagedAt f at image) same lacks.1)
      | inr r ↦
          refused_not h.limits h.format all at image o.found o.legal r
          (one_header r.format h.format image (refused_header h.limits at image r) begun)
    ]

-- the known edits stand where they stood
slice_further : {A : Type 0} (xs ys : List A) (k : ℕ) (x : A) → slice_get xs k ≡ Some x → slice_get (xs ++ ys) k ≡ Some x
slice_further xs ys k x s =
    let within = slice_get_within xs k x s in
    slice_get-get_or (xs ++ ys) k x (omega (arith, within, length-append xs ys))
    ∙ ap Some (get_or_append_left xs ys x k within ∙ get_or_from_slice_get xs k x x s)

pub told_again : (h : History) (behind : List Event) (pieces : List Record) (image : List ℕ) (place : ℕ) (edit : Edit) → MayOpen h behind image
    → IsJournalOf h.format pieces image → slice_get (edits_of h.events) place ≡ Some edit
    → verdict (reopen h.limits h.format pieces) edit ≡ Repeats (place + 1)
told_again h behind pieces image place edit o found s =
    let known = accepted h.events in
    let all = known ++ o.more in
    let same : pieces ≡ all = one_list h.format pieces all image found o.found in
    let there : slice_get (edits_of (map Accepted all)) place ≡ Some edit =
    ap (λ (ps : List Record). slice_get (map edit_of ps) place) (accepted_all all)
    ∙ ap (λ (l : List Edit). slice_get l place) (map-append edit_of known o.more)
    ∙ slice_further (map edit_of known) (map edit_of o.more) place edit s in
    ap (λ (ps : List Record). verdict (reopen h.limits h.format ps) edit) same ∙ is_repeated (reopen h.limits h.format all) place edit o.legal there
