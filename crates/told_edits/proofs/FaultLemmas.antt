-- Each line that tells a fault of the journal stands for one that has happened.
use Rattle.std.specs.Prelude.{◌≡◌, ℕ, ◌+◌, Bool, true, false, List, [], ◌∷◌, count_by, Result, Ok, Err}
use Rattle.std.proofs.Common.{refl, ap, sym, subst, ◌∙◌}
use Rattle.desk.proofs.FaultLemmas.{Tells, edit_adds_none, more_told, none_told, tells_none, tells_one}
use Rattle.edits.specs.declared.content.Edit.{Edit}
use Rattle.history.specs.Events.{History}
use Rattle.office.specs.Counting.{fault_count}
use Rattle.office.specs.Edits.{Edits, IsRefusedBy, IsTaken}
use Rattle.office.specs.declared.offices.Accepted.{Accepted}
use Rattle.office_inputs.specs.declared.refusals.Refusal.{Refusal}
use Rattle.office_inputs.specs.declared.refusals.Refusal.TheVariants.{RefReused, NoStation, StationExists, Limit, NoRating, RatingExists, PeriodOverlap, NoEntry, NotInReview, SamePerson, Awaits, NotApproved, AlreadyApproved, Locked, HistoryFull, NoComments, JournalFull, NoMemory, JournalFault}
use Rattle.told_edits.specs.Lines.{AreSent, IsSent, accepted_line, refused_line, told_line, tells_fault_line}

-- a line tells as many faults as have happened
abbrev TellsLine : History → List ℕ → History → Type 0
TellsLine = Tells tells_fault_line

plain : (h next : History) (line : List ℕ) → tells_fault_line line ≡ false → fault_count next.events ≡ fault_count h.events → TellsLine h line next
plain h next line none same = tells_none tells_fault_line h next line none same

as_before : (h next : History) → next ≡ h → fault_count next.events ≡ fault_count h.events
as_before h next is = ap (λ (x : History). fault_count x.events) is

taken : (h : History) (edit : Edit) (next : History) (number : ℕ) (again : Bool) → IsTaken h edit next number again
    → fault_count next.events ≡ fault_count h.events
taken h edit next number true is = as_before h next is.1
taken h edit next number false is = ap (λ (x : History). fault_count x.events) is.2 ∙ edit_adds_none h edit

plain_accepted : (end : List ℕ) (number : ℕ) → tells_fault_line (accepted_line end number) ≡ false
plain_accepted end number = refl

told_refused : (h : History) (edit : Edit) (next : History) (end : List ℕ) (refusal : Refusal) → IsRefusedBy h edit next refusal
    → TellsLine h (refused_line end refusal) next
told_refused h edit next end (RefReused number) is = plain h next (refused_line end (RefReused number)) refl (as_before h next is.1)
told_refused h edit next end NoStation is = plain h next (refused_line end NoStation) refl (as_before h next is.1)
told_refused h edit next end StationExists is = plain h next (refused_line end StationExists) refl (as_before h next is.1)
told_refused h edit next end (Limit which) is = plain h next (refused_line end (Limit which)) refl (as_before h next is.1)
told_refused h edit next end NoRating is = plain h next (refused_line end NoRating) refl (as_before h next is.1)
told_refused h edit next end RatingExists is = plain h next (refused_line end RatingExists) refl (as_before h next is.1)
told_refused h edit next end (PeriodOverlap from) is = plain h next (refused_line end (PeriodOverlap from)) refl (as_before h next is.1)
told_refused h edit next end NoEntry is = plain h next (refused_line end NoEntry) refl (as_before h next is.1)
told_refused h edit next end (NotInReview day) is = plain h next (refused_line end (NotInReview day)) refl (as_before h next is.1)
told_refused h edit next end (SamePerson day) is = plain h next (refused_line end (SamePerson day)) refl (as_before h next is.1)
told_refused h edit next end (Awaits day number) is = plain h next (refused_line end (Awaits day number)) refl (as_before h next is.1)
told_refused h edit next end (NotApproved day) is = plain h next (refused_line end (NotApproved day)) refl (as_before h next is.1)
told_refused h edit next end (AlreadyApproved day) is = plain h next (refused_line end (AlreadyApproved day)) refl (as_before h next is.1)
told_refused h edit next end (Locked day) is = plain h next (refused_line end (Locked day)) refl (as_before h next is.1)
told_refused h edit next end (HistoryFull full) is = plain h next (refused_line end (HistoryFull full)) refl (as_before h next is.1)
told_refused h edit next end NoComments is = plain h next (refused_line end NoComments) refl (as_before h next is.1)
told_refused h edit next end JournalFull is = plain h next (refused_line end JournalFull) refl (as_before h next is.1)
told_refused h edit next end NoMemory is = plain h next (refused_line end NoMemory) refl (as_before h next is)
told_refused h edit next end (JournalFault in_doubt) is =
    tells_one tells_fault_line h next is.left (refused_line end (JournalFault in_doubt)) refl is.faulted

told_by : (h : History) (edit : Edit) (next : History) (end : List ℕ) (told : Result Accepted Refusal) → Edits h edit next told
    → TellsLine h (told_line end told) next
told_by h edit next end (Ok told) is =
    plain h next (accepted_line end told.number) (plain_accepted end told.number) (taken h edit next told.number told.repeated is)
told_by h edit next end (Err refusal) is = told_refused h edit next end refusal is

sent : (end : List ℕ) (h : History) (edit : Edit) (line : List ℕ) (next : History) → IsSent end h edit line next → TellsLine h line next
sent end h edit line next is =
    subst (λ (l : List ℕ). TellsLine h l next) (sym is.line_is) (told_by h edit next end is.told is.edited)

pub all_told : (end : Edit → List ℕ) (h : History) (edits : List Edit) (lines : List (List ℕ)) (after : History) → AreSent end h edits lines after
    → fault_count after.events ≡ fault_count h.events + count_by tells_fault_line lines
all_told end h [] [] after is = none_told tells_fault_line h after is
all_told end h [] (l ∷ ls) after is = absurd is
all_told end h (e ∷ es) [] after is = absurd is
all_told end h (e ∷ es) (l ∷ ls) after is =
    more_told tells_fault_line h is.0 after l ls (sent (end e) h e l is.0 is.1) (all_told end is.0 es ls after is.2)
