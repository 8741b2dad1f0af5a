-- A history refuses no edit for a fault of the journal.
use Rattle.std.specs.Prelude.{◌≡◌, ℕ, Bool, true, false, not, ◌&&◌, cond, List, [], Option, Some, None, IfSome, option_map, ℤ}
use Rattle.std.proofs.Common.{refl, ap, sym, subst, inl, append-nil}
use Rattle.approval.specs.Statuses.{first_day_of}
use Rattle.approval.specs.declared.objections.Objection.{Objection}
use Rattle.approval.specs.declared.objections.Objection.TheVariants as objections
use Rattle.edits.specs.Same.{is_same}
use Rattle.edits.specs.declared.content.What.{What}
use Rattle.edits.specs.declared.content.What.TheVariants.{Decide}
use Rattle.edits.specs.declared.decisions.Decision.{Decision}
use Rattle.edits.specs.declared.decisions.Decision.TheVariants.{Approve, Rescind}
use Rattle.fixed_units.specs.Quantities.{SiteNumber}
use Rattle.edits.specs.declared.content.Edit.{Edit}
use Rattle.history.specs.Accepted.{Numbered, edits_of, named, stations_at}
use Rattle.history.specs.Awaited.{awaited, is_pending}
use Rattle.history.specs.Events.{Event, History}
use Rattle.history.specs.Statuses.{locked_at, objection_at}
use Rattle.history.specs.Verdicts.{Repeats, Refuses, or_else, refused_by_stations, refused_by_statuses, refused_as_awaiting, refused_as_locked, awaiting, awaits_by, is_full_of_events, is_full_of_cells, is_comment_barred, is_journal_full, refused_where, refused_for_room, refusal_of, verdict_of_refusal, verdict_by, verdict}
use Rattle.journal.specs.Writing.{Lists}
use Rattle.office.specs.Edits.{IsRefusedBy, RefusalCalls, is_fault}
use Rattle.office_inputs.specs.Refusals as inputs
use Rattle.office_inputs.specs.Stations.{station_of, stations_after}
use Rattle.station_inputs.specs.declared.obstacles.Obstacle.{Obstacle}
use Rattle.station_inputs.specs.declared.obstacles.Obstacle.TheVariants as obstacles
use Rattle.office_inputs.specs.declared.refusals.Full.TheVariants as fulls
use Rattle.office_inputs.specs.declared.refusals.Refusal.{Refusal}
use Rattle.office_inputs.specs.declared.refusals.Refusal.TheVariants.{RefReused, NoStation, StationExists, Limit, NoRating, RatingExists, PeriodOverlap, NoEntry, NotInReview, SamePerson, Awaits, NotApproved, AlreadyApproved, Locked, HistoryFull, NoComments, JournalFull, NoMemory, JournalFault}
use Rattle.office_inputs.specs.declared.refusals.Which.{Which}

abbrev NoFault : Option Refusal → Type 0
NoFault o = IfSome o (λ refusal. is_fault refusal ≡ false)

-- what of a station stands in the way of an edit
of_obstacle : (o : Option Obstacle) → NoFault (option_map inputs.refusal_for o)
of_obstacle None = tt
of_obstacle (Some obstacles.NoRating) = refl
of_obstacle (Some obstacles.RatingExists) = refl
of_obstacle (Some (obstacles.PeriodOverlap from)) = refl
of_obstacle (Some obstacles.NoEntry) = refl

of_inputs : (o : Option Which) (r : Option Refusal) → NoFault r → NoFault (inputs.refusal_by o r)
of_inputs None r n = n
of_inputs (Some which) r n = refl

of_stations : (missing kept : Bool) (o : Option Which) (r : Option Refusal) → NoFault r
    → NoFault (cond missing (Some NoStation) (cond kept (Some StationExists) (inputs.refusal_by o r)))
of_stations true kept o r n = refl
of_stations false true o r n = refl
of_stations false false o r n = of_inputs o r n

of_room : (events cells comment journal : Bool) → NoFault (or_else (refused_where events (HistoryFull fulls.Events))
    (or_else (refused_where cells (HistoryFull fulls.Cells)) (or_else (refused_where comment NoComments) (refused_where journal JournalFull))))
of_room true cells comment journal = refl
of_room false true comment journal = refl
of_room false false true journal = refl
of_room false false false true = refl
of_room false false false false = tt

first_or : (x y : Option Refusal) → NoFault x → NoFault y → NoFault (or_else x y)
first_or None y p q = q
first_or (Some refusal) y p q = p

by_stations : (h : History) (edit : Edit) → NoFault (refused_by_stations h edit)
by_stations h edit =
    let stations = stations_at h.events in
    of_stations (not (inputs.adds_station edit.what) && not (inputs.is_kept stations edit.site)) (inputs.adds_station edit.what && inputs.is_kept stations edit.site)
    (inputs.passed_limit h.limits edit.site stations (stations_after stations edit))
    (option_map inputs.refusal_for (inputs.obstacle_of (station_of stations edit.site) edit.what))
    (of_obstacle (inputs.obstacle_of (station_of stations edit.site) edit.what))

-- why the statuses of its days do not allow an edit
of_objection : (o : Option Objection) → NoFault (option_map inputs.refusal_for_objection o)
of_objection None = tt
of_objection (Some (objections.NotInReview day)) = refl
of_objection (Some (objections.SamePerson day)) = refl
of_objection (Some (objections.NotApproved day)) = refl
of_objection (Some (objections.AlreadyApproved day)) = refl

-- a day that awaits an edit
of_number : (day : ℤ) (o : Option ℕ) → NoFault (option_map (λ number. Awaits day number) o)
of_number day None = tt
of_number day (Some number) = refl

of_day : (events : List Event) (site : SiteNumber) (o : Option ℤ) → NoFault (awaits_by events site o)
of_day events site None = tt
of_day events site (Some day) = of_number day (awaited events site day)

of_decision : (events : List Event) (site : SiteNumber) (from to : ℤ) (decision : Decision) → NoFault (awaiting events site (Decide from to decision))
of_decision events site from to Approve = of_day events site (first_day_of (is_pending events site) from to)
of_decision events site from to Rescind = tt

of_awaiting : (events : List Event) (site : SiteNumber) (what : What) → NoFault (awaiting events site what)
of_awaiting events site (Decide from to decision) = of_decision events site from to decision
of_awaiting events site _ = tt

-- an approved day that would change
of_locked : (o : Option ℤ) → NoFault (option_map Locked o)
of_locked None = tt
of_locked (Some day) = refl

by_history : (h : History) (edit : Edit) → NoFault (refusal_of h edit)
by_history h edit =
    let full = refused_for_room h edit in
    let locked = refused_as_locked h edit in
    let awaited = refused_as_awaiting h edit in
    first_or (refused_by_stations h edit) (or_else (refused_by_statuses h edit) (or_else awaited (or_else locked full))) (by_stations h edit)
    (first_or (refused_by_statuses h edit) (or_else awaited (or_else locked full)) (of_objection (objection_at h.events edit))
    (first_or awaited (or_else locked full) (of_awaiting h.events edit.site edit.what)
    (first_or locked full (of_locked (locked_at h.events edit))
    (of_room (is_full_of_events h edit) (is_full_of_cells h edit) (is_comment_barred h edit) (is_journal_full h edit)))))

of_refusal : (o : Option Refusal) (refusal : Refusal) → NoFault o → verdict_of_refusal o ≡ Refuses refusal → is_fault refusal ≡ false
of_refusal None refusal p v = absurd (cc)
of_refusal (Some other) refusal p v = let same : other ≡ refusal = cc in subst (λ (r : Refusal). is_fault r ≡ false) same p

of_again : (b : Bool) (number : ℕ) (refusal : Refusal) → cond b (Repeats number) (Refuses (RefReused number)) ≡ Refuses refusal → is_fault refusal ≡ false
of_again true number refusal v = absurd (cc)
of_again false number refusal v = let same : RefReused number ≡ refusal = cc in subst (λ (r : Refusal). is_fault r ≡ false) same refl

of_verdict : (o : Option Numbered) (edit : Edit) (r : Option Refusal) (refusal : Refusal) → NoFault r → verdict_by o edit r ≡ Refuses refusal
    → is_fault refusal ≡ false
of_verdict None edit r refusal p v = of_refusal r refusal p v
of_verdict (Some other) edit r refusal p v = of_again (is_same other.edit edit) other.number refusal v

pub refused_no_fault : (h : History) (edit : Edit) (refusal : Refusal) → verdict h edit ≡ Refuses refusal → is_fault refusal ≡ false
refused_no_fault h edit refusal v = of_verdict (named (edits_of h.events) edit.reference) edit (refusal_of h edit) refusal (by_history h edit) v

refused_by : (h : History) (edit : Edit) (refusal : Refusal) → verdict h edit ≡ Refuses refusal → is_fault refusal ≡ false → IsRefusedBy h edit h refusal
refused_by h edit (RefReused number) v f = (v, refl)
refused_by h edit NoStation v f = (v, refl)
refused_by h edit StationExists v f = (v, refl)
refused_by h edit (Limit which) v f = (v, refl)
refused_by h edit NoRating v f = (v, refl)
refused_by h edit RatingExists v f = (v, refl)
refused_by h edit (PeriodOverlap from) v f = (v, refl)
refused_by h edit NoEntry v f = (v, refl)
refused_by h edit (NotInReview day) v f = (v, refl)
refused_by h edit (SamePerson day) v f = (v, refl)
refused_by h edit (Awaits day number) v f = (v, refl)
refused_by h edit (NotApproved day) v f = (v, refl)
refused_by h edit (AlreadyApproved day) v f = (v, refl)
refused_by h edit (Locked day) v f = (v, refl)
refused_by h edit (HistoryFull full) v f = (v, refl)
refused_by h edit NoComments v f = (v, refl)
refused_by h edit JournalFull v f = (v, refl)
refused_by h edit NoMemory v f = refl
refused_by h edit (JournalFault in_doubt) v f = absurd (cc)

pub is_refused : (h : History) (edit : Edit) (refusal : Refusal) → verdict h edit ≡ Refuses refusal → IsRefusedBy h edit h refusal
is_refused h edit refusal v = refused_by h edit refusal v (refused_no_fault h edit refusal v)

-- and the disk is not asked
no_calls : (old : History) (edit : Edit) (new : History) (refusal : Refusal) → is_fault refusal ≡ false → RefusalCalls old edit new refusal []
no_calls old edit new (RefReused number) f = refl
no_calls old edit new NoStation f = refl
no_calls old edit new StationExists f = refl
no_calls old edit new (Limit which) f = refl
no_calls old edit new NoRating f = refl
no_calls old edit new RatingExists f = refl
no_calls old edit new (PeriodOverlap from) f = refl
no_calls old edit new NoEntry f = refl
no_calls old edit new (NotInReview day) f = refl
no_calls old edit new (SamePerson day) f = refl
no_calls old edit new (Awaits day number) f = refl
no_calls old edit new (NotApproved day) f = refl
no_calls old edit new (AlreadyApproved day) f = refl
no_calls old edit new (Locked day) f = refl
no_calls old edit new (HistoryFull full) f = refl
no_calls old edit new NoComments f = refl
no_calls old edit new JournalFull f = refl
no_calls old edit new NoMemory f = refl
no_calls old edit new (JournalFault in_doubt) f = absurd (cc)

pub lists_none : (content : Option (List ℕ)) (calls : List Bool) (faults : ℕ) (P : List Bool → Type 0) → P [] → Lists content calls calls faults P
lists_none None calls faults P p = tt
lists_none (Some bytes) calls faults P p = inl ([], sym (append-nil calls), p)

pub lists_refused : (content : Option (List ℕ)) (calls : List Bool) (faults : ℕ) (h : History) (edit : Edit) (new : History) (refusal : Refusal)
    → verdict h edit ≡ Refuses refusal → Lists content calls calls faults (RefusalCalls h edit new refusal)
lists_refused content calls faults h edit new refusal v =
    lists_none content calls faults (RefusalCalls h edit new refusal) (no_calls h edit new refusal (refused_no_fault h edit refusal v))

pub not_a_fault : (h : History) (edit : Edit) (refusal : Refusal) (in_doubt : Bool) → verdict h edit ≡ Refuses refusal → refusal ≡ JournalFault in_doubt → ⊥
not_a_fault h edit refusal in_doubt v e =
    let none = refused_no_fault h edit refusal v in
    let fault : is_fault refusal ≡ true = ap is_fault e in
    cc
