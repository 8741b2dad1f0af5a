-- What it says that an edit is accepted.
use Rattle.std.specs.Prelude.{◌≡◌, ◌↔◌, ℕ, ◌+◌, ◌≤◌, Bool, true, false, not, cond, List, [], ◌∷◌, length, Option, Some, None, option_map}
use Rattle.std.proofs.Common.{refl, ap, sym, ◌∙◌}
use Rattle.std.proofs.lemmas.Bool.{false≢true, ltb-false}
use Rattle.edits.specs.Same.{is_same}
use Rattle.edits.specs.declared.content.Edit.{Edit}
use Rattle.history.specs.Accepted.{Numbered, accepted, edits_of, named, cell_count, journal_size}
use Rattle.history.specs.Awaited.{pending_days}
use Rattle.history.specs.Events.{History}
use Rattle.history.specs.Statuses.{locked_at, objection_at}
use Rattle.history.specs.Verdicts.{Repeats, Refuses, Accepts, with_edit, or_else, refused_by_stations, refused_by_statuses, refused_as_awaiting, refused_as_locked, bars, is_full_of_events, is_full_of_cells, is_comment_barred, is_journal_full, refused_where, refused_for_room, refusal_of, verdict_of_refusal, verdict_by, verdict}
use Rattle.office_inputs.specs.Refusals as inputs
use Rattle.office_inputs.specs.declared.refusals.Refusal.{Refusal}
use Rattle.office_inputs.specs.declared.refusals.Refusal.TheVariants.{RefReused, Locked, HistoryFull, NoComments, JournalFull}
use Rattle.office_inputs.specs.declared.refusals.Full.TheVariants as fulls
use Rattle.records.specs.Payloads.{Holds}
use Rattle.records.specs.declared.formats.Format.{Format}
use Rattle.records.specs.declared.formats.Format.TheVariants.{First, Second}

-- its reference names no accepted edit, neither the stations in force nor the statuses of its days refuse it, it approves no day that
-- awaits an edit and changes no approved one, and there is room, also for its comment
pub record IsAccepted (h : History) (edit : Edit) : Type 0 where
  pub new : named (edits_of h.events) edit.reference ≡ None
  pub stations : refused_by_stations h edit ≡ None
  pub statuses : objection_at h.events edit ≡ None
  pub awaits_none : refused_as_awaiting h edit ≡ None
  pub unlocked : locked_at h.events edit ≡ None
  pub events : length h.events + 1 + length (pending_days (with_edit h edit)) ≤ h.limits.events
  pub cells : cell_count (edits_of (with_edit h edit)) ≤ h.limits.cells
  pub comment : Holds h.format edit.comment
  pub journal : journal_size h.format (accepted (with_edit h edit)) ≤ h.limits.journal_bytes

again_refused : (b : Bool) (number : ℕ) → cond b (Repeats number) (Refuses (RefReused number)) ≡ Accepts → ⊥
again_refused true number h = cc h
again_refused false number h = cc h

not_again : (o : Option Numbered) (edit : Edit) (r : Option Refusal) → verdict_by o edit r ≡ Accepts → o ≡ None
not_again None edit r h = refl
not_again (Some other) edit r h = absurd (again_refused (is_same other.edit edit) other.number h)

not_refused : (r : Option Refusal) → verdict_of_refusal r ≡ Accepts → r ≡ None
not_refused None h = refl
not_refused (Some refusal) h = absurd (cc)

pub first_none : (a b : Option Refusal) → or_else a b ≡ None → a ≡ None
first_none None b h = refl
first_none (Some refusal) b h = absurd (cc)

pub later_none : (a b : Option Refusal) → or_else a b ≡ None → b ≡ None
later_none None b h = h
later_none (Some refusal) b h = absurd (cc)

pub none_mapped : {A B : Type 0} (f : A → B) (o : Option A) → option_map f o ≡ None → o ≡ None
none_mapped f None h = refl
none_mapped f (Some a) h = absurd (cc)

test_false : (b : Bool) (refusal : Refusal) → refused_where b refusal ≡ None → b ≡ false
test_false true refusal h = absurd (cc)
test_false false refusal h = refl

-- a format holds what it does not bar
unbarred : (format : Format) (comment : List ℕ) → bars format comment ≡ false → Holds format comment
unbarred First [] h = refl
unbarred First (byte ∷ comment) h = absurd (cc)
unbarred Second comment h = tt

-- and it bars what it does not hold
pub told_barred : (holds : Bool) (format : Format) (comment : List ℕ) → (holds ≡ true ↔ Holds format comment) → not holds ≡ bars format comment
told_barred true First [] h = refl
told_barred true First (byte ∷ comment) h = let none : byte ∷ comment ≡ [] = h.0 refl in absurd (cc)
told_barred true Second comment h = refl
told_barred false First [] h = absurd (false≢true (h.1 refl))
told_barred false First (byte ∷ comment) h = refl
told_barred false Second comment h = absurd (false≢true (h.1 tt))

pub accepted_parts : (h : History) (edit : Edit) → verdict h edit ≡ Accepts → IsAccepted h edit
accepted_parts h edit v =
    let new = not_again (named (edits_of h.events) edit.reference) edit (refusal_of h edit) v in
    let whole : refusal_of h edit ≡ None =
    not_refused (refusal_of h edit) (ap (λ (o : Option Numbered). verdict_by o edit (refusal_of h edit)) (sym new) ∙ v) in
    let events = refused_where (is_full_of_events h edit) (HistoryFull fulls.Events) in
    let cells = refused_where (is_full_of_cells h edit) (HistoryFull fulls.Cells) in
    let journal = refused_where (is_journal_full h edit) JournalFull in
    let comment = refused_where (is_comment_barred h edit) NoComments in
    let full = refused_for_room h edit in
    let locked = refused_as_locked h edit in
    let awaited = refused_as_awaiting h edit in
    let behind = later_none (refused_by_stations h edit) (or_else (refused_by_statuses h edit) (or_else awaited (or_else locked full))) whole in
    let later = later_none (refused_by_statuses h edit) (or_else awaited (or_else locked full)) behind in
    let last = later_none awaited (or_else locked full) later in
    let room = later_none locked full last in
    let small = later_none events (or_else cells (or_else comment journal)) room in
    let kept = later_none cells (or_else comment journal) small in
    record {
      new = new;
      stations = first_none (refused_by_stations h edit) (or_else (refused_by_statuses h edit) (or_else awaited (or_else locked full))) whole;
      statuses = none_mapped inputs.refusal_for_objection (objection_at h.events edit) (first_none (refused_by_statuses h edit) (or_else awaited (or_else locked full)) behind);
      awaits_none = first_none awaited (or_else locked full) later;
      unlocked = none_mapped Locked (locked_at h.events edit) (first_none locked full last);
      events = ltb-false h.limits.events _ (test_false (is_full_of_events h edit) (HistoryFull fulls.Events) (first_none events (or_else cells (or_else comment journal)) room));
      cells = ltb-false h.limits.cells _ (test_false (is_full_of_cells h edit) (HistoryFull fulls.Cells) (first_none cells (or_else comment journal) small));
      comment = unbarred h.format edit.comment (test_false (is_comment_barred h edit) NoComments (first_none comment journal kept));
      journal = ltb-false h.limits.journal_bytes _ (test_false (is_journal_full h edit) JournalFull (later_none comment journal kept));
    }

-- the format of the journal holds the comment of an accepted edit
pub accepts_holds : (h : History) (edit : Edit) → verdict h edit ≡ Accepts → Holds h.format edit.comment
accepts_holds h edit v = (accepted_parts h edit v).comment
