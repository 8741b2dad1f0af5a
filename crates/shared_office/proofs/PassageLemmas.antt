-- What passes in the office while an ask is answered.
use Rattle.std.proofs.Common.{◌≡◌, ◌≢◌, ℕ, ◌≤◌, Bool, true, false, List, [], ◌∷◌, ◌++◌, map, Option, Result, Ok, Err, IsSome, is_some, refl, sym, ◌∙◌, ap, subst, inl, append_assoc, append-nil, arith}
use Rattle.std.proofs.lemmas.List.{map-append}
use Rattle.shared_office.specs.Passages.{Passes, RoseBy}
use Rattle.devices.specs.Faults.{Rose}
use Rattle.devices.specs.declared.disks.Disk.{Ghosts}
use Rattle.edits.specs.declared.content.Edit.{Edit}
use Rattle.history.specs.After.{after_edit, after_fault, after_publications, go_on, publication}
use Rattle.history.specs.Awaited.{SiteDay}
use Rattle.history.specs.Events.{Event, Accepted, Faulted, History}
use Rattle.history.specs.Verdicts.{record_of}
use Rattle.journal.proofs.Moments.{started}
use Rattle.journal.specs.Moments.{LeavesOnly}
use Rattle.office.proofs.CountLemmas.{none_published}
use Rattle.office.specs.Counting.{fault_count}
use Rattle.office.specs.Stops.{IsLeft, IsLeftBefore, IsLeftBetween}
use Rattle.office.specs.Edits.{Edits, IsRefusedBy, IsTaken}
use Rattle.office.specs.declared.offices.Accepted.{Accepted as Done}
use Rattle.office_inputs.specs.declared.refusals.Refusal.{Refusal}
use Rattle.office_inputs.specs.declared.refusals.Refusal.TheVariants as refusals
use Rattle.recompute.specs.declared.jobs.Publish.{Publish}
use Rattle.recompute.specs.declared.jobs.Publish.TheVariants.{Settled, Superseded, Foreign, Published}
use Rattle.records.specs.Sheets.{Record}

-- a history goes on by no event
pub go_on_none : (h : History) → go_on h [] ≡ h
go_on_none h = ap (λ (e : List Event). record { opened = h.opened; limits = h.limits; format = h.format; events = e }) (append-nil h.events)

-- days were published, and then others
pub published_on : (h : History) (days more : List SiteDay) → after_publications (after_publications h days) more ≡ after_publications h (days ++ more)
published_on h days more =
    ap (λ (e : List Event). record { opened = h.opened; limits = h.limits; format = h.format; events = e })
    (append_assoc h.events (map publication days) (map publication more) ∙ ap (λ (e : List Event). h.events ++ e) (sym (map-append publication days more)))

-- days were published, and nothing else happened
pub record Publishes (h after : History) : Type 0 where
  pub days : List SiteDay
  pub after_is : after ≡ after_publications h days

pub publishes_none : (h : History) → Publishes h h
publishes_none h = record { days = []; after_is = sym (go_on_none h) }

pub publishes_more : (h mid after : History) → Publishes h mid → Publishes mid after → Publishes h after
publishes_more h mid after first second = record {
  days = first.days ++ second.days;
  after_is = second.after_is ∙ ap (λ (m : History). after_publications m second.days) first.after_is
      ∙ published_on h first.days second.days;
}

-- a job was published, or it was not
pub published_some : (outcome : Publish) (h after : History) (day : SiteDay) → (outcome ≡ Published → after ≡ after_publications h (day ∷ []))
    → (outcome ≢ Published → after ≡ h) → Publishes h after
published_some Published h after day is others = record { days = day ∷ []; after_is = is refl }
published_some Settled h after day is others = subst (Publishes h) (sym (others (λ e. absurd (cc e)))) (publishes_none h)
published_some (Superseded edit) h after day is others = subst (Publishes h) (sym (others (λ e. absurd (cc e)))) (publishes_none h)
published_some Foreign h after day is others = subst (Publishes h) (sym (others (λ e. absurd (cc e)))) (publishes_none h)

left_now : (h : History) (behind : List Event) (image : List ℕ) → IsLeft h image → IsLeftBefore (go_on h []) behind image
left_now h [] image is = subst (λ (x : History). IsLeft x image) (sym (go_on_none h)) is
left_now h (e ∷ behind) image is = inl (subst (λ (x : History). IsLeft x image) (sym (go_on_none h)) is)

-- what a stop leaves before anything has happened
left_first : (h after : History) (behind : List Event) (image : List ℕ) → after ≡ go_on h behind → IsLeft h image → IsLeftBetween h after image
left_first h after behind image is left = record {
  since = [];
  behind = behind;
  after_is = ap (λ (x : History). x.events) is ∙ ap (λ (e : List Event). e ++ behind) (sym (append-nil h.events));
  left = left_now h behind image left;
}

module _ {D : Type 0} (g : Ghosts D) where
  -- days were published, and the disk was left alone
  pub passes_published : (h after : History) (disk : D)
      → ((image : List ℕ) → g.left_since disk (g.moment disk) image → g.may_leave disk image)
      → (IsSome (g.content disk) → (image : List ℕ) → g.may_leave disk image → IsLeft h image)
      → Publishes h after → Passes g h after disk disk
  passes_published h after disk only stands days = record {
    since = map publication days.days;
    goes_on = days.after_is;
    causes = let none : fault_count (map publication days.days) ≡ 0 = none_published days.days in
        let least : RoseBy 0 (g.faults disk) (g.faults disk) = omega arith in
        subst (λ (n : ℕ). RoseBy n (g.faults disk) (g.faults disk)) (sym none) least;
    leaves = λ told.
        started g disk (IsLeftBetween h after)
        (λ image left. left_first h after (map publication days.days) image days.after_is (stands told image (only image left)));
    told = refl;
  }

  -- nothing happened
  pub passes_none : (h after : History) (old new : D) → after ≡ h → g.faults old ≤ g.faults new
      → (IsSome (g.content old) → LeavesOnly g old new (IsLeftBetween h after)) → is_some (g.content new) ≡ is_some (g.content old)
      → Passes g h after old new
  passes_none h after old new is counted leaves told = record {
    since = [];
    goes_on = is ∙ sym (go_on_none h);
    causes = omega arith;
    leaves = leaves;
    told = told;
  }

  -- an edit was accepted
  pub passes_edit : (h after : History) (edit : Edit) (old new : D) → after ≡ after_edit h edit → g.faults old ≤ g.faults new
      → (IsSome (g.content old) → LeavesOnly g old new (IsLeftBetween h after)) → is_some (g.content new) ≡ is_some (g.content old)
      → Passes g h after old new
  passes_edit h after edit old new is counted leaves told = record {
    since = Accepted (record_of h edit) ∷ [];
    goes_on = is;
    causes = omega arith;
    leaves = leaves;
    told = told;
  }

  -- the journal failed
  pub passes_fault : (h after : History) (left : Option Record) (old new : D) → after ≡ after_fault h left
      → Rose (g.faults old) (g.faults new)
      → (IsSome (g.content old) → LeavesOnly g old new (IsLeftBetween h after)) → is_some (g.content new) ≡ is_some (g.content old)
      → Passes g h after old new
  passes_fault h after left old new is rose leaves told = record {
    since = Faulted left ∷ [];
    goes_on = is;
    causes = rose;
    leaves = leaves;
    told = told;
  }

  -- an edit is in force
  passes_taken : (h after : History) (edit : Edit) (n : ℕ) (again : Bool) (old new : D) → IsTaken h edit after n again
      → g.faults old ≤ g.faults new
      → (IsSome (g.content old) → LeavesOnly g old new (IsLeftBetween h after)) → is_some (g.content new) ≡ is_some (g.content old)
      → Passes g h after old new
  passes_taken h after edit n true old new is counted leaves told = passes_none h after old new is.1 counted leaves told
  passes_taken h after edit n false old new is counted leaves told = passes_edit h after edit old new is.2 counted leaves told

  -- an edit was refused
  passes_refused : (h after : History) (edit : Edit) (refusal : Refusal) (old new : D) → IsRefusedBy h edit after refusal
      → g.faults old ≤ g.faults new
      → ((in_doubt : Bool) → refusal ≡ refusals.JournalFault in_doubt → Rose (g.faults old) (g.faults new))
      → (IsSome (g.content old) → LeavesOnly g old new (IsLeftBetween h after)) → is_some (g.content new) ≡ is_some (g.content old)
      → Passes g h after old new
  passes_refused h after edit (refusals.RefReused n) old new is counted cause leaves told = passes_none h after old new is.1 counted leaves told
  passes_refused h after edit refusals.NoStation old new is counted cause leaves told = passes_none h after old new is.1 counted leaves told
  passes_refused h after edit refusals.StationExists old new is counted cause leaves told = passes_none h after old new is.1 counted leaves told
  passes_refused h after edit (refusals.Limit which) old new is counted cause leaves told = passes_none h after old new is.1 counted leaves told
  passes_refused h after edit refusals.NoRating old new is counted cause leaves told = passes_none h after old new is.1 counted leaves told
  passes_refused h after edit refusals.RatingExists old new is counted cause leaves told = passes_none h after old new is.1 counted leaves told
  passes_refused h after edit (refusals.PeriodOverlap from) old new is counted cause leaves told = passes_none h after old new is.1 counted leaves told
  passes_refused h after edit refusals.NoEntry old new is counted cause leaves told = passes_none h after old new is.1 counted leaves told
  passes_refused h after edit (refusals.NotInReview day) old new is counted cause leaves told = passes_none h after old new is.1 counted leaves told
  passes_refused h after edit (refusals.SamePerson day) old new is counted cause leaves told = passes_none h after old new is.1 counted leaves told
  passes_refused h after edit (refusals.Awaits day number) old new is counted cause leaves told = passes_none h after old new is.1 counted leaves told
  passes_refused h after edit (refusals.NotApproved day) old new is counted cause leaves told = passes_none h after old new is.1 counted leaves told
  passes_refused h after edit (refusals.AlreadyApproved day) old new is counted cause leaves told = passes_none h after old new is.1 counted leaves told
  passes_refused h after edit (refusals.Locked day) old new is counted cause leaves told = passes_none h after old new is.1 counted leaves told
  passes_refused h after edit (refusals.HistoryFull full) old new is counted cause leaves told = passes_none h after old new is.1 counted leaves told
  passes_refused h after edit refusals.NoComments old new is counted cause leaves told = passes_none h after old new is.1 counted leaves told
  passes_refused h after edit refusals.JournalFull old new is counted cause leaves told = passes_none h after old new is.1 counted leaves told
  passes_refused h after edit refusals.NoMemory old new is counted cause leaves told = passes_none h after old new is counted leaves told
  passes_refused h after edit (refusals.JournalFault in_doubt) old new is counted cause leaves told =
      passes_fault h after is.left old new is.faulted (cause in_doubt refl) leaves told

  -- by what is answered to an edit
  pub passes_told : (h after : History) (edit : Edit) (told : Result Done Refusal) (old new : D) → Edits h edit after told
      → g.faults old ≤ g.faults new
      → ((in_doubt : Bool) → told ≡ Err (refusals.JournalFault in_doubt) → Rose (g.faults old) (g.faults new))
      → (IsSome (g.content old) → LeavesOnly g old new (IsLeftBetween h after)) → is_some (g.content new) ≡ is_some (g.content old)
      → Passes g h after old new
  passes_told h after edit (Ok told) old new is counted cause leaves tells =
      passes_taken h after edit told.number told.repeated old new is counted leaves tells
  passes_told h after edit (Err refusal) old new is counted cause leaves tells =
      passes_refused h after edit refusal old new is counted (λ in_doubt same. cause in_doubt (ap Err same)) leaves tells
