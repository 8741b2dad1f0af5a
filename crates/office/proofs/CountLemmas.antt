-- The disk has counted each fault among the events.
use Rattle.std.specs.Prelude.{◌≡◌, ℕ, ◌+◌, ◌-◌, ◌^◌, ◌≤◌, min, Bool, true, false, cond, List, [], ◌∷◌, ◌++◌, map, Option, Some, None, Ok, Err}
use Rattle.std.proofs.Common.{arith, refl, ap, sym, subst, inl, inr, ◌∙◌}
use Rattle.std.proofs.lemmas.List.Sums.{sum_by-append}
use Rattle.devices.specs.Faults.{Rose}
use Rattle.edits.specs.declared.content.Edit.{Edit}
use Rattle.history.specs.Accepted.{accepted}
use Rattle.history.specs.After.{publication, reopen}
use Rattle.history.specs.Awaited.{SiteDay}
use Rattle.history.specs.Events.{Event, Accepted, Faulted, History}
use Rattle.history.specs.Verdicts.{Refuses, record_of, verdict}
use Rattle.office.specs.Counting.{fault_count, is_journal_fault, HasCounted, RisesFor, Counts, GoesOverCounting}
use Rattle.office.specs.Edits.{IsRefusedBy, IsTaken, is_fault}
use Rattle.office.specs.Steps.{Step, AnEdit, AClaim, ALook, APublication, ATurn, ASettlement, AnAnswer, AStop, IsReopened, IsStep, cut_off, added_by}
use Rattle.office.proofs.RefusedLemmas.{refused_no_fault}
use Rattle.office.proofs.StepLemmas.{Course, Still, Taken, Failed, Shown, step_course}
use Rattle.office_inputs.specs.declared.limits.Limits.{Limits}
use Rattle.office_inputs.specs.declared.refusals.Refusal.{Refusal}
use Rattle.office_inputs.specs.declared.refusals.Refusal.TheVariants.{RefReused, NoStation, StationExists, Limit, NoRating, RatingExists, PeriodOverlap, NoEntry, NotInReview, SamePerson, Awaits, NotApproved, AlreadyApproved, Locked, HistoryFull, NoComments, JournalFull, NoMemory, JournalFault}
use Rattle.records.specs.Sheets.{Record}
use Rattle.records.specs.declared.formats.Format.{Format}
use Rattle.register.specs.Registered.{Registered}

-- an edit that the history refuses leaves the count
pub counts_refused : (h : History) (edit : Edit) (refusal : Refusal) (count : ℕ) → verdict h edit ≡ Refuses refusal → RisesFor count (is_fault refusal) count
counts_refused h edit refusal count v =
    let none : is_fault refusal ≡ false = refused_no_fault h edit refusal v in rw none refl

-- faults among events, and others behind them
pub fault_count-append : (xs ys : List Event) → fault_count (xs ++ ys) ≡ fault_count xs + fault_count ys
fault_count-append xs ys = sum_by-append (λ (event : Event). cond (is_journal_fault event) 1 0) xs ys

-- no publication is a fault, and no accepted edit
pub none_published : (days : List SiteDay) → fault_count (map publication days) ≡ 0
none_published [] = refl
none_published (d ∷ days) = none_published days

pub none_accepted : (pieces : List Record) → fault_count (map Accepted pieces) ≡ 0
none_accepted [] = refl
none_accepted (piece ∷ pieces) = none_accepted pieces

pub one_accepted : (piece : Record) → fault_count (Accepted piece ∷ []) ≡ 0
one_accepted piece = refl

-- a failed record is one
pub one_faulted : (left : Option Record) → fault_count (Faulted left ∷ []) ≡ 1
one_faulted left = refl

-- by a call of no edit there is no fault more
same_count : (h : History) (edits : List Edit) (new : History) → Course h None edits new → fault_count new.events ≡ fault_count h.events
same_count h edits new (Still e is) = ap (λ (x : History). fault_count x.events) is
same_count h edits new (Taken edit its e v is) = absurd (cc)
same_count h edits new (Failed edit left its e v may is) = absurd (cc)
same_count h edits new (Shown days e p is) =
    let i = fault_count-append h.events (map publication days) in
    let j = none_published days in
    ap (λ (x : History). fault_count x.events) is ∙ omega (arith, i, j)

counted_same : (h new : History) (before now : ℕ) → fault_count new.events ≡ fault_count h.events → now ≡ before → HasCounted h before → HasCounted new now
counted_same h new before now e f k = rw (e, f) k

counted_taken : (h : History) (edit : Edit) (new : History) (number : ℕ) (again : Bool) → IsTaken h edit new number again
    → fault_count new.events ≡ fault_count h.events
counted_taken h edit new number true is = ap (λ (x : History). fault_count x.events) is.1
counted_taken h edit new number false is =
    let i = fault_count-append h.events (Accepted (record_of h edit) ∷ []) in
    let j = one_accepted (record_of h edit) in
    ap (λ (x : History). fault_count x.events) is.2 ∙ omega (arith, i, j)

one_more : (count before now : ℕ) → Rose before now → min count (2 ^ 64 - 1) ≤ before → min (count + 1) (2 ^ 64 - 1) ≤ now
one_more count before now r k = omega (arith, r, k)

still_counted : (h new : History) (before now : ℕ) → new ≡ h → now ≡ before → HasCounted h before → HasCounted new now
still_counted h new before now is e k = counted_same h new before now (ap (λ (x : History). fault_count x.events) is) e k

counted_refused : (h : History) (edit : Edit) (new : History) (refusal : Refusal) (before now : ℕ) → IsRefusedBy h edit new refusal
    → RisesFor before (is_fault refusal) now → HasCounted h before → HasCounted new now
counted_refused h edit new (RefReused number) before now is rises k = still_counted h new before now is.1 rises k
counted_refused h edit new NoStation before now is rises k = still_counted h new before now is.1 rises k
counted_refused h edit new StationExists before now is rises k = still_counted h new before now is.1 rises k
counted_refused h edit new (Limit which) before now is rises k = still_counted h new before now is.1 rises k
counted_refused h edit new NoRating before now is rises k = still_counted h new before now is.1 rises k
counted_refused h edit new RatingExists before now is rises k = still_counted h new before now is.1 rises k
counted_refused h edit new (PeriodOverlap from) before now is rises k = still_counted h new before now is.1 rises k
counted_refused h edit new NoEntry before now is rises k = still_counted h new before now is.1 rises k
counted_refused h edit new (NotInReview day) before now is rises k = still_counted h new before now is.1 rises k
counted_refused h edit new (SamePerson day) before now is rises k = still_counted h new before now is.1 rises k
counted_refused h edit new (Awaits day number) before now is rises k = still_counted h new before now is.1 rises k
counted_refused h edit new (NotApproved day) before now is rises k = still_counted h new before now is.1 rises k
counted_refused h edit new (AlreadyApproved day) before now is rises k = still_counted h new before now is.1 rises k
counted_refused h edit new (Locked day) before now is rises k = still_counted h new before now is.1 rises k
counted_refused h edit new (HistoryFull full) before now is rises k = still_counted h new before now is.1 rises k
counted_refused h edit new NoComments before now is rises k = still_counted h new before now is.1 rises k
counted_refused h edit new JournalFull before now is rises k = still_counted h new before now is.1 rises k
counted_refused h edit new NoMemory before now is rises k = still_counted h new before now is rises k
counted_refused h edit new (JournalFault in_doubt) before now is rises k =
    let i = fault_count-append h.events (Faulted is.left ∷ []) in
    let j = one_faulted is.left in
    let e : fault_count new.events ≡ fault_count h.events + 1 = ap (λ (x : History). fault_count x.events) is.faulted ∙ omega (arith, i, j) in
    rw e (one_more (fault_count h.events) before now rises k)

-- of an office that is opened none was counted yet
pub opened_counted : (limits : Limits) (format : Format) (pieces : List Record) (count : ℕ) → HasCounted (reopen limits format pieces) count
opened_counted limits format pieces count = let e = none_accepted pieces in omega (arith, e)

reopened_counted : (old : Registered) (cut : Option Edit) (found : Option Record) (new : Registered) (count : ℕ) → IsReopened old cut found new
    → HasCounted new.history count
reopened_counted old cut None new count is =
    subst (λ (h : History). HasCounted h count) (sym is.0) (opened_counted old.history.limits old.history.format (accepted old.history.events) count)
reopened_counted old cut (Some piece) new count is =
    subst (λ (h : History). HasCounted h count) (sym is.1) (opened_counted old.history.limits old.history.format (accepted old.history.events ++ piece ∷ []) count)

-- a call of no edit
counted_call : (old : Registered) (step : Step) (new : Registered) (before now : ℕ) → cut_off step ≡ None → IsStep old step new
    → ((cut : Option Edit) (found : Option Record) → step ≡ AStop cut found → ⊥) → now ≡ before → HasCounted old.history before → HasCounted new.history now
counted_call old step new before now none is call same k = elim (step_course old step new is) [
  | inl course ↦ counted_same old.history new.history before now
      (same_count old.history (added_by step) new.history (subst (λ (o : Option Edit). Course old.history o (added_by step) new.history) none course)) same k
  | inr stop ↦ absurd (call stop.0 stop.1 stop.2)
]

pub counted_step : (old : Registered) (step : Step) (new : Registered) (before now : ℕ) → IsStep old step new → Counts before step now
    → HasCounted old.history before → HasCounted new.history now
counted_step old (AnEdit edit (Ok answer)) new before now is counts k =
    counted_same old.history new.history before now (counted_taken old.history edit new.history answer.number answer.repeated is.0) counts k
counted_step old (AnEdit edit (Err refusal)) new before now is counts k = counted_refused old.history edit new.history refusal before now is.0 counts k
counted_step old (AClaim result) new before now is counts k = counted_call old (AClaim result) new before now refl is (λ cut found e. cc) counts k
counted_step old (ALook last result) new before now is counts k = counted_call old (ALook last result) new before now refl is (λ cut found e. cc) counts k
counted_step old (APublication job outcome) new before now is counts k =
    counted_call old (APublication job outcome) new before now refl is (λ cut found e. cc) counts k
counted_step old (ATurn result) new before now is counts k = counted_call old (ATurn result) new before now refl is (λ cut found e. cc) counts k
counted_step old (ASettlement result) new before now is counts k = counted_call old (ASettlement result) new before now refl is (λ cut found e. cc) counts k
counted_step old (AnAnswer site day answer) new before now is counts k =
    counted_call old (AnAnswer site day answer) new before now refl is (λ cut found e. cc) counts k
counted_step old (AStop cut found) new before now is counts k = reopened_counted old cut found new now is

-- and any steps
pub counted_steps : (old : Registered) (before : ℕ) (steps : List Step) (new : Registered) (now : ℕ) → GoesOverCounting old before steps new now
    → HasCounted old.history before → HasCounted new.history now
counted_steps old before [] new now g k =
    still_counted old.history new.history before now (ap (λ (r : Registered). r.history) g.0) g.1 k
counted_steps old before (step ∷ steps) new now g k =
    counted_steps g.0 g.1 steps new now g.3 (counted_step old step g.0 before g.1 g.2.0 g.2.1 k)
