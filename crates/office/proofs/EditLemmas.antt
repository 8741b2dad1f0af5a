-- An edit's record is kept, or a fault refuses it: what the journal then is to the history.
use Rattle.std.specs.Prelude.{◌≡◌, ◌⊎◌, ℕ, ◌+◌, ◌≤◌, Bool, false, List, [], ◌∷◌, ◌++◌, length, reverse, Option, Some, None, is_some, IsSome}
use Rattle.std.specs.Int.{w32, to_le_bytes}
use Rattle.std.proofs.Common.{arith, refl, ap, sym, subst, inl, inr, ◌∙◌, length-append}
use Rattle.std.proofs.lemmas.List.{append-nil, reverse-append}
use Rattle.devices.specs.declared.disks.Disk.{Ghosts}
use Rattle.edits.specs.declared.content.Edit.{Edit}
use Rattle.history.specs.Accepted.{accepted, journal_size}
use Rattle.history.specs.After.{MayLeaveInDoubt, after_edit, after_fault, doubt, doubt_back, leaves_doubt, left_by}
use Rattle.history.specs.Events.{Event, Accepted, Faulted, History}
use Rattle.history.specs.Verdicts.{Accepts, verdict, record_of}
use Rattle.history.specs.declared.recorded.NotKept.{NotKept}
use Rattle.history.proofs.EventLemmas.{accepted_accepted, accepted_faulted}
use Rattle.history.proofs.VerdictLemmas.{accepted_parts}
use Rattle.journal.specs.JournalBytes.{StandsFor}
use Rattle.journal.specs.Keeping.{Holds}
use Rattle.journal.specs.Moments.{LeavesOnly}
use Rattle.journal.specs.Writing.{Lists}
use Rattle.journal.specs.declared.keeping.Journal.{Journal}
use Rattle.journal.proofs.Moments.{started, widened}
use Rattle.journal.proofs.Stages.{records_stand}
use Rattle.office.specs.Edits.{FailedCalls, FaultCalls, IsFaulted, IsTaken}
use Rattle.office.specs.Keeping.{IsLeftKeeping}
use Rattle.office.specs.Standing.{Stands}
use Rattle.office.specs.Stops.{IsLeft, IsLeftBetween, in_flight}
use Rattle.records.specs.Payloads.{payload, encoded, encoded_and_closed}
use Rattle.records.specs.Sheets.{Record}
use Rattle.records.specs.declared.formats.Format.{Format}
use Rattle.register.proofs.KeepsLemmas.{journal_more}

-- which record the journal is in doubt of, as the history goes on
pub doubt_accepted : (h : History) (edit : Edit) → doubt (after_edit h edit) ≡ None
unfolding doubt_back
doubt_accepted h edit = ap doubt_back (reverse-append h.events (Accepted (record_of h edit) ∷ []))

pub taken_settles : (old : History) (edit : Edit) (new : History) (number : ℕ) → IsTaken old edit new number false → doubt new ≡ None
taken_settles old edit new number taken = ap doubt taken.2 ∙ doubt_accepted old edit

pub doubt_faulted : (h : History) (left : Option Record) → doubt (after_fault h left) ≡ left
unfolding doubt_back
doubt_faulted h left = ap doubt_back (reverse-append h.events (Faulted left ∷ []))

-- how long a record is with the gates before and behind it
four : (n : ℕ) → length (to_le_bytes w32 n) ≡ 4
four n = refl

closed_length : (format : Format) (piece : Record) → length (encoded_and_closed format piece) ≡ 5 + length (payload format piece)
closed_length format piece =
    let whole = length-append (encoded format piece) (0 ∷ []) in
    let parts = length-append (to_le_bytes w32 (length (payload format piece))) (payload format piece) in
    let head = four (length (payload format piece)) in
    omega arith

size_accepted : (h : History) (edit : Edit)
    → journal_size h.format (accepted (after_edit h edit).events)
    ≡ journal_size h.format (accepted h.events) + length (encoded_and_closed h.format (record_of h edit))
size_accepted h edit =
    let list = ap (journal_size h.format) (accepted_accepted h.events (record_of h edit)) in
    let more = journal_more h.format (accepted h.events) (record_of h edit) in
    let long = closed_length h.format (record_of h edit) in
    omega arith

-- a disk that told none goes on telling none
was_told : (old new : Option (List ℕ)) → (old ≡ None → new ≡ None) → IsSome new → IsSome old
was_told None new untold told = absurd (let none : new ≡ None = untold refl in cc)
was_told (Some bytes) new untold told = refl

lists_told : (content : Option (List ℕ)) (before after : List Bool) (faults : ℕ) (P : List Bool → Type 0)
    → (IsSome content → Lists content before after faults P) → Lists content before after faults P
lists_told None before after faults P lists = tt
lists_told (Some bytes) before after faults P lists = lists refl

lists_wider : (content : Option (List ℕ)) (before after : List Bool) (faults : ℕ) (P Q : List Bool → Type 0) → ((calls : List Bool) → P calls → Q calls)
    → Lists content before after faults P → Lists content before after faults Q
lists_wider None before after faults P Q k lists = tt
lists_wider (Some bytes) before after faults P Q k lists = elim lists [
  | inl some ↦ inl (some.0, some.1, k some.0 some.2)
  | inr full ↦ inr full
]

-- what a stop leaves before an event has come, and where none comes
left_before : (h after : History) (event : Event) (image : List ℕ) → after.events ≡ h.events ++ event ∷ []
    → IsLeftKeeping h.format (accepted h.events) (doubt h) (in_flight event) image → IsLeftBetween h after image
left_before h after event image is left =
    let same : h.events ++ [] ≡ h.events = append-nil h.events in
    record {
      since = [];
      behind = event ∷ [];
      after_is = is ∙ ap (λ (l : List Event). l ++ event ∷ []) (sym same);
      left = subst (λ (l : List Event). StandsFor h.format (accepted l) (doubt_back (reverse l)) image ⊎ StandsFor h.format (accepted l) (in_flight event) image) (sym same) left;
    }

left_same : (h after : History) (image : List ℕ) → after.events ≡ h.events → IsLeft h image → IsLeftBetween h after image
left_same h after image is left =
    let same : h.events ++ [] ≡ h.events = append-nil h.events in
    record {
      since = [];
      behind = [];
      after_is = is ∙ sym same ∙ sym (append-nil (h.events ++ []));
      left = subst (λ (l : List Event). StandsFor h.format (accepted l) (doubt_back (reverse l)) image) (sym same) left;
    }

-- the edit has the next number
pub is_taken : (h : History) (edit : Edit) (new : History) (number : ℕ) → verdict h edit ≡ Accepts → new ≡ after_edit h edit
    → number ≡ length (accepted new.events) → IsTaken h edit new number false
is_taken h edit new number lawful is counted =
    let one : length (accepted (after_edit h edit).events) ≡ length (accepted h.events) + 1 =
    ap length (accepted_accepted h.events (record_of h edit)) ∙ length-append (accepted h.events) (record_of h edit ∷ []) in
    (lawful, counted ∙ ap (λ (n : History). length (accepted n.events)) is ∙ one, is)

module _ {D : Type 0} {g : Ghosts D} (h : History) (left : Option Record) (old : Journal D g) (stands : Stands h left old) where
  pub holds_left : IsSome (g.content old.disk) → Holds (accepted h.events) left old
  holds_left told = subst (λ (o : Option Record). Holds (accepted h.events) o old) (sym stands.left_is) (stands.holds told)

  -- there is room in the journal
  pub does_fit : (edit : Edit) (bytes : List ℕ) → verdict h edit ≡ Accepts → bytes ≡ encoded_and_closed h.format (record_of h edit) → old.gate + 1 + length bytes ≤ old.limit
  does_fit edit bytes lawful is =
      let room = (accepted_parts h edit lawful).journal in
      let size = size_accepted h edit in
      let long = ap length is in
      let now = stands.size in
      let limit = stands.limit in
      omega arith

  -- the journal of a history without the record, or with it
  pub stands_faulted : (new : Journal D g) (after : Option Record) → new.format ≡ old.format → new.gate ≡ old.gate → new.limit ≡ old.limit → new.in_doubt ≡ is_some after
      → (g.content old.disk ≡ None → g.content new.disk ≡ None) → ((pieces : List Record) → Holds pieces left old → Holds pieces after new)
      → Stands (after_fault h after) after new
  stands_faulted new after format gate limit doubted untold keeps =
      let same : accepted (after_fault h after).events ≡ accepted h.events = accepted_faulted h.events after in
      let last : doubt (after_fault h after) ≡ after = doubt_faulted h after in
      record {
        format = format ∙ stands.format;
        size = ap (λ n. n + 1) gate ∙ stands.size ∙ ap (journal_size h.format) (sym same);
        limit = limit ∙ stands.limit;
        left_is = sym last;
        in_doubt_is = doubted ∙ ap is_some (sym last);
        holds = λ told. rw (same, last) (keeps (accepted h.events) (holds_left (was_told (g.content old.disk) (g.content new.disk) untold told)));
      }

  pub stands_accepted : (edit : Edit) (bytes : List ℕ) (new : Journal D g) (after : Option Record) → after ≡ None → bytes ≡ encoded_and_closed h.format (record_of h edit)
      → new.format ≡ old.format → new.gate ≡ old.gate + length bytes → new.limit ≡ old.limit → new.in_doubt ≡ is_some after
      → (g.content old.disk ≡ None → g.content new.disk ≡ None) → ((pieces : List Record) → Holds pieces left old → Holds (pieces ++ record_of h edit ∷ []) None new)
      → Stands (after_edit h edit) after new
  stands_accepted edit bytes new after none is format gate limit doubted untold keeps =
      let same : accepted (after_edit h edit).events ≡ accepted h.events ++ record_of h edit ∷ [] = accepted_accepted h.events (record_of h edit) in
      let last : doubt (after_edit h edit) ≡ None = doubt_accepted h edit in
      let size = size_accepted h edit in
      let long = ap length is in
      let now = stands.size in
      record {
        format = format ∙ stands.format;
        size = omega arith;
        limit = limit ∙ stands.limit;
        left_is = none ∙ sym last;
        in_doubt_is = doubted ∙ ap is_some (none ∙ sym last);
        holds = λ told. rw (same, last) (keeps (accepted h.events) (holds_left (was_told (g.content old.disk) (g.content new.disk) untold told)));
      }

  left_is : (edit : Edit) (after : Option Record) (failed : NotKept) → after ≡ left_by left (record_of h edit) failed
      → after ≡ left_by (doubt h) (record_of h edit) failed
  left_is edit after failed e = e ∙ ap (λ (o : Option Record). left_by o (record_of h edit) failed) stands.left_is

  pub may_leave : (edit : Edit) (after : Option Record) (failed : NotKept)
      → (is_some after ≡ leaves_doubt failed) × (after ≡ left_by left (record_of h edit) failed) → MayLeaveInDoubt h edit after
  may_leave edit after failed leaves = (failed, left_is edit after failed leaves.1)

  pub is_faulted : (edit : Edit) (after : Option Record) (failed : NotKept) (in_doubt : Bool) → verdict h edit ≡ Accepts → in_doubt ≡ leaves_doubt failed
      → (is_some after ≡ leaves_doubt failed) × (after ≡ left_by left (record_of h edit) failed)
      → IsFaulted h edit (after_fault h after) in_doubt
  is_faulted edit after failed in_doubt lawful told leaves = record {
    failed = failed;
    left = after;
    lawful = lawful;
    told = told;
    left_is = left_is edit after failed leaves.1;
    left_told = leaves.0 ∙ sym told;
    faulted = refl;
  }

  -- what a stop leaves
  pub leaves_between : (after : History) (event : Event) (new : D) → after.events ≡ h.events ++ event ∷ []
      → ((pieces : List Record) → Holds pieces left old → LeavesOnly g old.disk new (IsLeftKeeping old.format pieces left (in_flight event)))
      → IsSome (g.content old.disk) → LeavesOnly g old.disk new (IsLeftBetween h after)
  leaves_between after event new is leaves told =
      widened g old.disk new (IsLeftKeeping h.format (accepted h.events) (doubt h) (in_flight event)) (IsLeftBetween h after)
      (subst (λ (f : Format). LeavesOnly g old.disk new (IsLeftKeeping f (accepted h.events) (doubt h) (in_flight event))) stands.format
      (subst (λ (o : Option Record). LeavesOnly g old.disk new (IsLeftKeeping old.format (accepted h.events) o (in_flight event))) stands.left_is
      (leaves (accepted h.events) (holds_left told)))) (λ image s. left_before h after event image is s)

  -- where nothing is asked of the disk
  pub leaves_unasked : ((disk : D) (image : List ℕ) → g.left_since disk (g.moment disk) image → g.may_leave disk image) → (after : History) → after ≡ h
      → IsSome (g.content old.disk) → LeavesOnly g old.disk old.disk (IsLeftBetween h after)
  leaves_unasked only_now after is told =
      started g old.disk (IsLeftBetween h after)
      (λ image left. left_same h after image (ap (λ (h : History). h.events) is)
      (subst (λ (f : Format). StandsFor f (accepted h.events) (doubt h) image) stands.format
      (records_stand old.format (accepted h.events) (doubt h) image ((stands.holds told).images image (only_now old.disk image left)))))

  -- the calls of the disk
  pub calls_inside : (new : D) (P : Bool → List Bool → Type 0)
      → ((pieces : List Record) → Holds pieces left old → Lists (g.content old.disk) (g.calls old.disk) (g.calls new) (g.faults new) (P (is_some left)))
      → Lists (g.content old.disk) (g.calls old.disk) (g.calls new) (g.faults new) (P (is_some (doubt h)))
  calls_inside new P lists =
      subst (λ (o : Option Record). Lists (g.content old.disk) (g.calls old.disk) (g.calls new) (g.faults new) (P (is_some o))) stands.left_is
      (lists_told (g.content old.disk) (g.calls old.disk) (g.calls new) (g.faults new) (P (is_some left)) (λ told. lists (accepted h.events) (holds_left told)))

  -- where a fault refuses an edit, they tell what failed
  pub fault_calls_inside : (new : D) (edit : Edit) (after : Option Record) (failed : NotKept) (in_doubt : Bool) → verdict h edit ≡ Accepts
      → in_doubt ≡ leaves_doubt failed → (is_some after ≡ leaves_doubt failed) × (after ≡ left_by left (record_of h edit) failed)
      → ((pieces : List Record) → Holds pieces left old → Lists (g.content old.disk) (g.calls old.disk) (g.calls new) (g.faults new) (FailedCalls (is_some left) failed))
      → Lists (g.content old.disk) (g.calls old.disk) (g.calls new) (g.faults new) (FaultCalls h edit (after_fault h after) in_doubt)
  unfolding is_faulted
  fault_calls_inside new edit after failed in_doubt lawful told leaves lists =
      lists_wider (g.content old.disk) (g.calls old.disk) (g.calls new) (g.faults new) (FailedCalls (is_some (doubt h)) failed)
      (FaultCalls h edit (after_fault h after) in_doubt) (λ calls are. (is_faulted edit after failed in_doubt lawful told leaves, are))
      (calls_inside new (λ (doubtful : Bool) (calls : List Bool). FailedCalls doubtful failed calls) lists)
