-- An edit is refused as locked only where it would change an approved day, and none that would is accepted.
use Rattle.std.specs.Prelude.{◌≡◌, ℕ, Bool, true, false, not, ◌&&◌, cond, List, [], ◌∷◌, filter, find, Option, Some, None, option_map, ℤ}
use Rattle.std.proofs.Common.{refl, ap, sym, ◌∙◌}
use Rattle.approval.specs.Statuses.{first_day_of, is_approved}
use Rattle.approval.specs.declared.objections.Objection.{Objection}
use Rattle.approval.specs.declared.objections.Objection.TheVariants as objections
use Rattle.edits.specs.Same.{is_same}
use Rattle.edits.specs.declared.content.Edit.{Edit}
use Rattle.edits.specs.declared.content.What.{What}
use Rattle.edits.specs.declared.content.What.TheVariants.{Decide}
use Rattle.edits.specs.declared.decisions.Decision.{Decision}
use Rattle.edits.specs.declared.decisions.Decision.TheVariants.{Approve, Rescind}
use Rattle.fixed_units.specs.Calendar.{calendar}
use Rattle.fixed_units.specs.Quantities.{SiteNumber, IsDay}
use Rattle.history.specs.Accepted.{Numbered, edits_of, named, stations_at}
use Rattle.history.specs.Awaited.{awaited, is_pending}
use Rattle.history.specs.Events.{Event, History}
use Rattle.history.specs.Locks.{ReachesTheLocks}
use Rattle.history.specs.Statuses.{locked_at, objection_at, status_at}
use Rattle.history.specs.Verdicts.{Accepts, Refuses, Repeats, awaiting, awaits_by, is_comment_barred, is_full_of_cells, is_full_of_events, is_journal_full, or_else, refused_as_awaiting, refused_as_locked, refused_by_stations, refused_by_statuses, refused_for_room, refused_where, refusal_of, verdict, verdict_by, verdict_of_refusal}
use Rattle.history.proofs.ApprovedLemmas.{none_filtered, none_passes}
use Rattle.history.proofs.StationLemmas.{found_passes}
use Rattle.history.proofs.VerdictLemmas.{accepted_parts, none_mapped}
use Rattle.office_inputs.specs.Changes.{keeps_day}
use Rattle.office_inputs.specs.Refusals as inputs
use Rattle.office_inputs.specs.Stations.{station_of, stations_after}
use Rattle.office_inputs.specs.declared.refusals.Full.TheVariants as fulls
use Rattle.office_inputs.specs.declared.refusals.Refusal.{Refusal}
use Rattle.office_inputs.specs.declared.refusals.Refusal.TheVariants.{RefReused, NoStation, StationExists, Awaits, Locked, HistoryFull, NoComments, JournalFull}
use Rattle.office_inputs.specs.declared.refusals.Which.{Which}
use Rattle.station_inputs.specs.declared.obstacles.Obstacle.{Obstacle}
use Rattle.station_inputs.specs.declared.obstacles.Obstacle.TheVariants as obstacles

-- an accepted edit changes no approved day
and_false : (b c : Bool) → (b && c) ≡ false → c ≡ true → b ≡ false
and_false true true h e = absurd (cc)
and_false true false h e = absurd (cc)
and_false false c h e = refl

not_false : (b : Bool) → not b ≡ false → b ≡ true
not_false true h = refl
not_false false h = absurd (cc)

pub accepted_keeps : (h : History) (edit : Edit) (day : ℤ) → verdict h edit ≡ Accepts → IsDay day → is_approved (status_at h.events edit.site day) ≡ true
    → keeps_day (stations_at h.events) edit day ≡ true
accepted_keeps h edit day v k approved =
    not_false (keeps_day (stations_at h.events) edit day)
    (and_false (not (keeps_day (stations_at h.events) edit day)) (is_approved (status_at h.events edit.site day))
    (none_passes (λ d. not (keeps_day (stations_at h.events) edit d) && is_approved (status_at h.events edit.site d)) day k
    (none_filtered (λ d. is_approved (status_at h.events edit.site d)) (λ d. not (keeps_day (stations_at h.events) edit d)) calendar
    (accepted_parts h edit v).unlocked)) approved)

-- nothing else is told so
abbrev NotLocked : ℤ → Option Refusal → Type 0
NotLocked day o = o ≡ Some (Locked day) → ⊥

not_obstacle : (day : ℤ) (o : Option Obstacle) → NotLocked day (option_map inputs.refusal_for o)
not_obstacle day None h = cc h
not_obstacle day (Some obstacles.NoRating) h = cc h
not_obstacle day (Some obstacles.RatingExists) h = cc h
not_obstacle day (Some (obstacles.PeriodOverlap from)) h = cc h
not_obstacle day (Some obstacles.NoEntry) h = cc h

not_inputs : (day : ℤ) (o : Option Which) (r : Option Refusal) → NotLocked day r → NotLocked day (inputs.refusal_by o r)
not_inputs day None r n h = n h
not_inputs day (Some which) r n h = cc h

not_stations : (day : ℤ) (missing kept : Bool) (o : Option Which) (r : Option Refusal) → NotLocked day r
    → NotLocked day (cond missing (Some NoStation) (cond kept (Some StationExists) (inputs.refusal_by o r)))
not_stations day true kept o r n h = cc h
not_stations day false true o r n h = cc h
not_stations day false false o r n h = not_inputs day o r n h

by_stations : (day : ℤ) (h : History) (edit : Edit) → NotLocked day (refused_by_stations h edit)
by_stations day h edit =
    let stations = stations_at h.events in
    not_stations day (not (inputs.adds_station edit.what) && not (inputs.is_kept stations edit.site)) (inputs.adds_station edit.what && inputs.is_kept stations edit.site)
    (inputs.passed_limit h.limits edit.site stations (stations_after stations edit))
    (option_map inputs.refusal_for (inputs.obstacle_of (station_of stations edit.site) edit.what))
    (not_obstacle day (inputs.obstacle_of (station_of stations edit.site) edit.what))

not_objection : (day : ℤ) (o : Option Objection) → NotLocked day (option_map inputs.refusal_for_objection o)
not_objection day None h = cc h
not_objection day (Some (objections.NotInReview d)) h = cc h
not_objection day (Some (objections.SamePerson d)) h = cc h
not_objection day (Some (objections.NotApproved d)) h = cc h
not_objection day (Some (objections.AlreadyApproved d)) h = cc h

not_number : (day own : ℤ) (o : Option ℕ) → NotLocked day (option_map (λ number. Awaits own number) o)
not_number day own None h = cc h
not_number day own (Some number) h = cc h

not_day : (day : ℤ) (events : List Event) (site : SiteNumber) (o : Option ℤ) → NotLocked day (awaits_by events site o)
not_day day events site None h = cc h
not_day day events site (Some own) h = not_number day own (awaited events site own) h

not_decision : (day : ℤ) (events : List Event) (site : SiteNumber) (from to : ℤ) (decision : Decision) → NotLocked day (awaiting events site (Decide from to decision))
not_decision day events site from to Approve h = not_day day events site (first_day_of (is_pending events site) from to) h
not_decision day events site from to Rescind h = cc h

not_awaiting : (day : ℤ) (events : List Event) (site : SiteNumber) (what : What) → NotLocked day (awaiting events site what)
not_awaiting day events site (Decide from to decision) h = not_decision day events site from to decision h
not_awaiting day events site _ h = cc h

not_full : (day : ℤ) (events cells comment journal : Bool) → NotLocked day (or_else (refused_where events (HistoryFull fulls.Events))
    (or_else (refused_where cells (HistoryFull fulls.Cells)) (or_else (refused_where comment NoComments) (refused_where journal JournalFull))))
not_full day true cells comment journal h = cc h
not_full day false true comment journal h = cc h
not_full day false false true journal h = cc h
not_full day false false false true h = cc h
not_full day false false false false h = cc h

later : (day : ℤ) (a b : Option Refusal) → NotLocked day a → or_else a b ≡ Some (Locked day) → b ≡ Some (Locked day)
later day None b n h = h
later day (Some refusal) b n h = absurd (n h)

earlier : (day : ℤ) (a b : Option Refusal) → NotLocked day b → or_else a b ≡ Some (Locked day) → a ≡ Some (Locked day)
earlier day None b n h = absurd (n h)
earlier day (Some refusal) b n h = h

is_locked : (day : ℤ) (o : Option ℤ) → option_map Locked o ≡ Some (Locked day) → o ≡ Some day
is_locked day None h = absurd (cc)
is_locked day (Some own) h = let same : own ≡ day = cc in ap Some same

of_refusal : (day : ℤ) (o : Option Refusal) → verdict_of_refusal o ≡ Refuses (Locked day) → o ≡ Some (Locked day)
of_refusal day None h = absurd (cc)
of_refusal day (Some refusal) h = let same : refusal ≡ Locked day = cc in ap Some same

again : (day : ℤ) (b : Bool) (number : ℕ) → cond b (Repeats number) (Refuses (RefReused number)) ≡ Refuses (Locked day) → ⊥
again day true number h = cc h
again day false number h = cc h

of_verdict : (day : ℤ) (o : Option Numbered) (edit : Edit) (r : Option Refusal) → verdict_by o edit r ≡ Refuses (Locked day) → r ≡ Some (Locked day)
of_verdict day None edit r h = of_refusal day r h
of_verdict day (Some other) edit r h = absurd (again day (is_same other.edit edit) other.number h)

first_is_none : (day : ℤ) (a b : Option Refusal) → NotLocked day a → or_else a b ≡ Some (Locked day) → a ≡ None
first_is_none day None b n h = refl
first_is_none day (Some refusal) b n h = absurd (n h)

not_named : (day : ℤ) (o : Option Numbered) (edit : Edit) (r : Option Refusal) → verdict_by o edit r ≡ Refuses (Locked day) → o ≡ None
not_named day None edit r h = refl
not_named day (Some other) edit r h = absurd (again day (is_same other.edit edit) other.number h)

-- nothing that is asked before refuses an edit that is locked out
pub reaches_locks : (h : History) (edit : Edit) (day : ℤ) → verdict h edit ≡ Refuses (Locked day) → ReachesTheLocks h edit
reaches_locks h edit day v =
    let full = refused_for_room h edit in
    let locked = refused_as_locked h edit in
    let awaits = refused_as_awaiting h edit in
    let stations = refused_by_stations h edit in
    let statuses = refused_by_statuses h edit in
    let whole = of_verdict day (named (edits_of h.events) edit.reference) edit (refusal_of h edit) v in
    let a = later day stations (or_else statuses (or_else awaits (or_else locked full))) (by_stations day h edit) whole in
    let b = later day statuses (or_else awaits (or_else locked full)) (not_objection day (objection_at h.events edit)) a in
    record {
      new = not_named day (named (edits_of h.events) edit.reference) edit (refusal_of h edit) v;
      stations = first_is_none day stations (or_else statuses (or_else awaits (or_else locked full))) (by_stations day h edit) whole;
      statuses = none_mapped inputs.refusal_for_objection (objection_at h.events edit)
          (first_is_none day statuses (or_else awaits (or_else locked full)) (not_objection day (objection_at h.events edit)) a);
      awaits_none = first_is_none day awaits (or_else locked full) (not_awaiting day h.events edit.site edit.what) b;
    }

pub locked_is : (h : History) (edit : Edit) (day : ℤ) → verdict h edit ≡ Refuses (Locked day) → locked_at h.events edit ≡ Some day
locked_is h edit day v =
    let full = refused_for_room h edit in
    let locked = refused_as_locked h edit in
    let awaits = refused_as_awaiting h edit in
    let whole = of_verdict day (named (edits_of h.events) edit.reference) edit (refusal_of h edit) v in
    let a = later day (refused_by_stations h edit) (or_else (refused_by_statuses h edit) (or_else awaits (or_else locked full))) (by_stations day h edit) whole in
    let b = later day (refused_by_statuses h edit) (or_else awaits (or_else locked full)) (not_objection day (objection_at h.events edit)) a in
    let c = later day awaits (or_else locked full) (not_awaiting day h.events edit.site edit.what) b in
    is_locked day (locked_at h.events edit)
    (earlier day locked full (not_full day (is_full_of_events h edit) (is_full_of_cells h edit) (is_comment_barred h edit) (is_journal_full h edit)) c)

-- what is found among the changed days is approved and changed
member_step : (p q : ℤ → Bool) (b : Bool) (x y : ℤ) (xs : List ℤ) → q x ≡ b → find p (cond b (x ∷ filter q xs) (filter q xs)) ≡ Some y
    → (find p (filter q xs) ≡ Some y → q y ≡ true) → q y ≡ true
member_step p q false x y xs e h rec = rec h
member_step p q true x y xs e h rec = head_step p q (p x) x y xs e h rec
  where
    head_step : (p q : ℤ → Bool) (c : Bool) (x y : ℤ) (xs : List ℤ) → q x ≡ true → cond c (Some x) (find p (filter q xs)) ≡ Some y
        → (find p (filter q xs) ≡ Some y → q y ≡ true) → q y ≡ true
    head_step p q true x y xs e h rec = let same : x ≡ y = cc in ap q (sym same) ∙ e
    head_step p q false x y xs e h rec = rec h

found_among : (p q : ℤ → Bool) (xs : List ℤ) (y : ℤ) → find p (filter q xs) ≡ Some y → q y ≡ true
found_among p q [] y h = absurd (cc)
found_among p q (x ∷ xs) y h = member_step p q (q x) x y xs refl h (found_among p q xs y)

pub not_true : (b : Bool) → not b ≡ true → b ≡ false
not_true true h = absurd (cc)
not_true false h = refl

pub locked_changes : (h : History) (edit : Edit) (day : ℤ) → verdict h edit ≡ Refuses (Locked day)
    → (is_approved (status_at h.events edit.site day) ≡ true) × (keeps_day (stations_at h.events) edit day ≡ false)
locked_changes h edit day v =
    let found = locked_is h edit day v in
    let approved : ℤ → Bool = λ d. is_approved (status_at h.events edit.site d) in
    let changed : ℤ → Bool = λ d. not (keeps_day (stations_at h.events) edit d) in (
      found_passes approved (filter changed calendar) day found,
      not_true (keeps_day (stations_at h.events) edit day) (found_among approved changed calendar day found),
    )
