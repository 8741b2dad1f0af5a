-- What one step makes of the history of an office.
use Rattle.std.specs.Prelude.{◌≡◌, ◌⊎◌, ℕ, Bool, true, false, cond, List, [], ◌∷◌, ◌++◌, map, take, Option, Some, None, Ok, Err}
use Rattle.std.proofs.Common.{refl, ap, sym, subst, inl, inr, ◌∙◌}
use Rattle.std.proofs.lemmas.List.{append-nil}
use Rattle.edits.specs.declared.content.Edit.{Edit}
use Rattle.fixed_units.specs.Quantities.{IsDay}
use Rattle.history.specs.Accepted.{accepted, edit_of}
use Rattle.history.specs.After.{MayLeaveInDoubt, after_edit, after_fault, after_publications}
use Rattle.history.specs.Awaited.{SiteDay, pending_days}
use Rattle.history.specs.Events.{Faulted, History}
use Rattle.history.specs.Legal.{IsLegal, MayBeKept}
use Rattle.history.specs.Verdicts.{Accepts, record_of, verdict}
use Rattle.history.proofs.EventLemmas.{accepted_all, accepted_accepted, accepted_faulted}
use Rattle.history.proofs.LegalLemmas.{accepted_may_be_kept, doubt_may_be_kept, left_may_be_kept, legal_front, legal_accepted, legal_more, legal_with, may_fault}
use Rattle.office.specs.Edits.{IsRefusedBy, IsTaken}
use Rattle.office.specs.Steps.{Step, AnEdit, AClaim, ALook, APublication, ATurn, ASettlement, AnAnswer, AStop, IsReopened, IsStep, MayBeFound, Publishes, added_by, cut_off}
use Rattle.office.proofs.DoubtLemmas.{accepted_publications}
use Rattle.office_inputs.specs.declared.limits.Limits.{Limits}
use Rattle.office_inputs.specs.declared.refusals.Refusal.{Refusal}
use Rattle.office_inputs.specs.declared.refusals.Refusal.TheVariants.{RefReused, NoStation, StationExists, Limit, NoRating, RatingExists, PeriodOverlap, NoEntry, NotInReview, SamePerson, Awaits, NotApproved, AlreadyApproved, Locked, HistoryFull, NoComments, JournalFull, NoMemory, JournalFault}
use Rattle.recompute.specs.Jobs.{DayJob}
use Rattle.recompute.specs.declared.jobs.Publish.{Publish}
use Rattle.recompute.specs.declared.jobs.Publish.TheVariants.{Settled, Superseded, Foreign, Published}
use Rattle.records.specs.Sheets.{Record}
use Rattle.records.specs.declared.formats.Format.{Format}
use Rattle.register.specs.Asked.{day_of, outcome_at}
use Rattle.register.specs.Keeping.{KeepsToTheLimit}
use Rattle.register.specs.Registered.{Registered, IsSettledTo, first_unclaimed}
use Rattle.register.proofs.CourseLemmas.{ArePublished, after_few, few_days, legal_published, published_keep, published_pending, some_published, unclaimed_published}
use Rattle.register.proofs.LimitLemmas.{edit_keeps_to, refused_keeps_to}

-- how a history goes on by a call, of this edit or of none, and which edits that adds: by nothing, the edit that is accepted, a fault
-- that refuses it, or publications of pending days
pub data Course (h : History) (asked : Option Edit) (edits : List Edit) (new : History) : Type 0 where
  Still : edits ≡ [] → new ≡ h → Course h asked edits new
  Taken : (edit : Edit) → asked ≡ Some edit → edits ≡ edit ∷ [] → verdict h edit ≡ Accepts → new ≡ after_edit h edit → Course h asked edits new
  Failed : (edit : Edit) (left : Option Record) → asked ≡ Some edit → edits ≡ [] → verdict h edit ≡ Accepts → MayLeaveInDoubt h edit left
      → new ≡ after_fault h left → Course h asked edits new
  Shown : (days : List SiteDay) → edits ≡ [] → ArePublished h.events days → new ≡ after_publications h days → Course h asked edits new

of_taken : (h : History) (edit : Edit) (new : History) (number : ℕ) (again : Bool) → IsTaken h edit new number again
    → Course h (Some edit) (cond again [] (edit ∷ [])) new
of_taken h edit new number true is = Still refl is.1
of_taken h edit new number false is = Taken edit refl refl is.0 is.2

of_refused : (h : History) (edit : Edit) (new : History) (refusal : Refusal) → IsRefusedBy h edit new refusal → Course h (Some edit) [] new
of_refused h edit new (RefReused number) is = Still refl is.1
of_refused h edit new NoStation is = Still refl is.1
of_refused h edit new StationExists is = Still refl is.1
of_refused h edit new (Limit which) is = Still refl is.1
of_refused h edit new NoRating is = Still refl is.1
of_refused h edit new RatingExists is = Still refl is.1
of_refused h edit new (PeriodOverlap from) is = Still refl is.1
of_refused h edit new NoEntry is = Still refl is.1
of_refused h edit new (NotInReview day) is = Still refl is.1
of_refused h edit new (SamePerson day) is = Still refl is.1
of_refused h edit new (Awaits day number) is = Still refl is.1
of_refused h edit new (NotApproved day) is = Still refl is.1
of_refused h edit new (AlreadyApproved day) is = Still refl is.1
of_refused h edit new (Locked day) is = Still refl is.1
of_refused h edit new (HistoryFull full) is = Still refl is.1
of_refused h edit new NoComments is = Still refl is.1
of_refused h edit new JournalFull is = Still refl is.1
of_refused h edit new NoMemory is = Still refl is
of_refused h edit new (JournalFault in_doubt) is = Failed edit is.left refl refl is.lawful (is.failed, is.left_is) is.faulted

of_publication : (old : Registered) (job : DayJob) (outcome : Publish) (new : Registered) → IsDay job.day → outcome ≡ outcome_at old.history.events job
    → Publishes old job outcome new → Course old.history None [] new.history
of_publication old job Published new day e p =
    Shown (day_of job ∷ []) refl (day, published_pending old.history.events job (sym e), tt) p.0
of_publication old job Settled new day e p = Still refl p.history
of_publication old job (Superseded edit) new day e p = Still refl p.history
of_publication old job Foreign new day e p = Still refl p.history

of_settlement : (old new : Registered) (count : ℕ) → IsSettledTo old new count → Course old.history None [] new.history
of_settlement old new count settled =
    Shown (take count (pending_days old.history.events)) refl (some_published old.history.events count) settled.settled

-- a step is a call, or a stop with an opening behind it
pub step_course : (old : Registered) (step : Step) (new : Registered) → IsStep old step new
    → Course old.history (cut_off step) (added_by step) new.history
    ⊎ ((cut : Option Edit) × (found : Option Record) × (step ≡ AStop cut found) × IsReopened old cut found new)
step_course old (AnEdit edit (Ok accepted)) new is = inl (of_taken old.history edit new.history accepted.number accepted.repeated is.0)
step_course old (AnEdit edit (Err refusal)) new is = inl (of_refused old.history edit new.history refusal is.0)
step_course old (AClaim (Ok None)) new is = inl (Still refl is.1.history)
step_course old (AClaim (Ok (Some job))) new is = inl (Still refl is.1.0)
step_course old (AClaim (Err failed)) new is = inl (Still refl is.history)
step_course old (ALook last (Ok job)) new is = inl (Still refl is.1.history)
step_course old (ALook last (Err failed)) new is = inl (Still refl is.history)
step_course old (APublication job outcome) new is = inl (of_publication old job outcome new is.0 is.1 is.2)
step_course old (ATurn (Ok day)) new is =
    inl (Shown (few_days (first_unclaimed old)) refl (unclaimed_published old) (is.1 ∙ after_few old.history (first_unclaimed old)))
step_course old (ATurn (Err failed)) new is = inl (Still refl is.history)
step_course old (ASettlement (Ok count)) new is = inl (of_settlement old new count is.1)
step_course old (ASettlement (Err failed)) new is = inl (of_settlement old new is.0 is.2)
step_course old (AnAnswer site day answer) new is = inl (Still refl is.1.history)
step_course old (AStop cut found) new is = inr (cut, found, refl, is)

-- the history stays legal
legal_course : (h : History) (asked : Option Edit) (edits : List Edit) (new : History) → Course h asked edits new → IsLegal h → IsLegal new
legal_course h asked edits new (Still e is) k = subst IsLegal (sym is) k
legal_course h asked edits new (Taken edit its e v is) k =
    subst IsLegal (sym is) (legal_accepted h edit k v)
legal_course h asked edits new (Failed edit left its e v may is) k =
    subst IsLegal (sym is) (legal_more h (Faulted left) k (may_fault h left (left_may_be_kept h edit left v k may)))
legal_course h asked edits new (Shown days e p is) k = subst IsLegal (sym is) (legal_published h days p k)

found_may_be_kept : (h : History) (cut : Option Edit) (piece : Record) → IsLegal h → MayBeFound h cut piece → MayBeKept h.limits h.format h.events piece
found_may_be_kept h cut piece k m = elim m [
  | inl left ↦ doubt_may_be_kept h piece left k
  | inr flown ↦ subst (MayBeKept h.limits h.format h.events) (sym flown.3) (accepted_may_be_kept h flown.0 flown.2)
]

legal_reopened : (old : Registered) (cut : Option Edit) (found : Option Record) (new : Registered) → IsReopened old cut found new → IsLegal old.history → IsLegal new.history
legal_reopened old cut None new is k = subst IsLegal (sym is.0) (legal_front old.history old.history.events [] k (sym (append-nil old.history.events)))
legal_reopened old cut (Some piece) new is k =
    subst IsLegal (sym is.1)
    (legal_with old.history old.history.events [] piece k (sym (append-nil old.history.events)) (found_may_be_kept old.history cut piece k is.0))

pub legal_step : (old : Registered) (step : Step) (new : Registered) → IsStep old step new → IsLegal old.history → IsLegal new.history
legal_step old step new is k = elim (step_course old step new is) [
  | inl course ↦ legal_course old.history (cut_off step) (added_by step) new.history course k
  | inr stop ↦ legal_reopened old stop.0 stop.1 new stop.3 k
]

-- it keeps its accepted records, and has those of the edits that are added behind them
pub record Adds (h : History) (edits : List Edit) (new : History) : Type 0 where
  pub records : List Record
  pub accepted_are : accepted new.events ≡ accepted h.events ++ records
  pub edits_are : map edit_of records ≡ edits
  pub limits : new.limits ≡ h.limits
  pub format : new.format ≡ h.format

adds_none : (h : History) (edits : List Edit) (new : History) → edits ≡ [] → accepted new.events ≡ accepted h.events → new.limits ≡ h.limits
    → new.format ≡ h.format → Adds h edits new
adds_none h edits new e same limits format = record {
  records = [];
  accepted_are = same ∙ sym (append-nil (accepted h.events));
  edits_are = sym e;
  limits = limits;
  format = format;
}

limits_of : History → Limits
limits_of h = h.limits

format_of : History → Format
format_of h = h.format

adds_course : (h : History) (asked : Option Edit) (edits : List Edit) (new : History) → Course h asked edits new → Adds h edits new
unfolding limits_of format_of
adds_course h asked edits new (Still e is) = adds_none h edits new e (ap (λ (x : History). accepted x.events) is) (ap limits_of is) (ap format_of is)
adds_course h asked edits new (Taken edit its e v is) = record {
  records = record_of h edit ∷ [];
  accepted_are = ap (λ (x : History). accepted x.events) is ∙ accepted_accepted h.events (record_of h edit);
  edits_are = sym e;
  limits = ap limits_of is;
  format = ap format_of is;
}
adds_course h asked edits new (Failed edit left its e v may is) =
    adds_none h edits new e (ap (λ (x : History). accepted x.events) is ∙ accepted_faulted h.events left) (ap limits_of is) (ap format_of is)
adds_course h asked edits new (Shown days e p is) =
    adds_none h edits new e (ap (λ (x : History). accepted x.events) is ∙ accepted_publications h.events days) (ap limits_of is) (ap format_of is)

adds_reopened : (old : Registered) (cut : Option Edit) (found : Option Record) (new : Registered) → IsReopened old cut found new
    → Adds old.history (added_by (AStop cut found)) new.history
unfolding limits_of format_of
adds_reopened old cut None new is =
    adds_none old.history [] new.history refl (ap (λ (x : History). accepted x.events) is.0 ∙ accepted_all (accepted old.history.events)) (ap limits_of is.0) (ap format_of is.0)
adds_reopened old cut (Some piece) new is = record {
  records = piece ∷ [];
  accepted_are = ap (λ (x : History). accepted x.events) is.1 ∙ accepted_all (accepted old.history.events ++ piece ∷ []);
  edits_are = refl;
  limits = ap limits_of is.1;
  format = ap format_of is.1;
}

pub adds_step : (old : Registered) (step : Step) (new : Registered) → IsStep old step new → Adds old.history (added_by step) new.history
adds_step old step new is = elim (step_course old step new is) [
  | inl course ↦ adds_course old.history (cut_off step) (added_by step) new.history course
  | inr stop ↦
      subst (λ (s : Step). Adds old.history (added_by s) new.history) (sym stop.2) (adds_reopened old stop.0 stop.1 new stop.3)
]

-- its events and pending days keep to the limit
pub limit_course : (h : History) (asked : Option Edit) (edits : List Edit) (new : History) → Course h asked edits new → KeepsToTheLimit h → KeepsToTheLimit new
limit_course h asked edits new (Still e is) k = subst KeepsToTheLimit (sym is) k
limit_course h asked edits new (Taken edit its e v is) k = subst KeepsToTheLimit (sym is) (edit_keeps_to h edit v)
limit_course h asked edits new (Failed edit left its e v may is) k = subst KeepsToTheLimit (sym is) (refused_keeps_to h edit left v)
limit_course h asked edits new (Shown days e p is) k = subst KeepsToTheLimit (sym is) (published_keep h days p k)
