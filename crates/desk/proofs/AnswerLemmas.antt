-- How asks are answered.
use Rattle.std.proofs.Common.{◌≡◌, ◌⊎◌, ℕ, ◌+◌, ◌-◌, Bool, true, false, List, length, get_or, ◌==◌, if◌then◌else◌, Result, Ok, Err, OnOk, OnErr, true≢false, refl, sym, ◌∙◌, ap, inl, inr, arith}
use Rattle.std.specs.Fmt.{digits}
use Rattle.desk.specs.Answering.{told_bytes}
use Rattle.desk.specs.Answering as told_of
use Rattle.desk.specs.Asked.{IsReading}
use Rattle.desk.specs.Replies.{IsAnswered, IsLeftBy, edit_reply, fault_reply, history_after, history_by, reply_to}
use Rattle.desk.specs.Replying.{memory_reply}
use Rattle.desk.specs.declared.answers.Told.{Told}
use Rattle.desk.specs.declared.answers.Told.TheVariants as tells
use Rattle.edits.specs.declared.content.Edit.{Edit}
use Rattle.history.specs.Accepted.{accepted}
use Rattle.history.specs.After.{after_turns}
use Rattle.history.specs.Awaited.{pending_days}
use Rattle.history.specs.Events.{History}
use Rattle.history.specs.Verdicts.{Verdict, Repeats, Refuses, Accepts, verdict}
use Rattle.http_api.specs.Replies.{bytes_of}
use Rattle.http_api.specs.declared.asks.Ask.{Ask}
use Rattle.http_api.specs.declared.asks.Ask.TheVariants as asks
use Rattle.http_api.specs.declared.replies.Reply.TheVariants as replies
use Rattle.office.specs.Edits.{EditsClaims, IsRefused, IsRefusedBy, TakesClaims, is_fault}
use Rattle.office.specs.declared.offices.Accepted.{Accepted}
use Rattle.office_inputs.specs.declared.refusals.Refusal.{Refusal}
use Rattle.office_inputs.specs.declared.refusals.Refusal.TheVariants as refusals
use Rattle.register.specs.Registered.{NoneOut, Registered}

-- what follows from a fact about an answer that is Ok
pub on_ok : {X E : Type 0} (r : Result X E) (A B : Type 0) → (A → B) → OnOk r A → OnOk r B
on_ok (Ok x) A B f a = f a
on_ok (Err e) A B f a = tt

-- an ask that is no edit was answered by the office's own reply, or there was no memory for it
pub by_office : {X E : Type 0} (r : Result X E) (told : Told) (h : History) (ask : Ask) (reply : List ℕ) (next : History)
    → OnOk r (reply ≡ reply_to h ask) → OnOk r (next ≡ history_after h ask) → OnErr r (IsLeftBy h ask next)
    → OnOk r (told ≡ tells.Made) → OnErr r (told ≡ tells.NoMemory) → IsAnswered h ask (told_bytes told reply) next
by_office (Ok x) told h ask reply next is after left made not =
    inl (ap (λ (t : Told). told_bytes t reply) made ∙ is, after)
by_office (Err e) told h ask reply next is after left made not =
    inr (inr (ap (λ (t : Told). told_bytes t reply) not, left))

-- an ask that only reads leaves the history
reading_after : (h : History) (ask : Ask) → IsReading ask → h ≡ history_after h ask
unfolding after_turns
reading_after h (asks.Edit edit) only = absurd only
reading_after h (asks.Station site) only = refl
reading_after h (asks.DayOf site day) only = refl
reading_after h (asks.SheetOf site day) only = refl
reading_after h (asks.Daily site from to) only = refl
reading_after h (asks.Measurement site number) only = refl
reading_after h (asks.EditOf number) only = refl
reading_after h (asks.Turns count) only = ap (λ (n : ℕ). after_turns n h) (sym only)
reading_after h asks.Settle only = absurd only
reading_after h asks.Counts only = refl

reading_left : (h : History) (ask : Ask) → IsReading ask → IsLeftBy h ask h
unfolding after_turns
reading_left h (asks.Edit edit) only = absurd only
reading_left h (asks.Station site) only = refl
reading_left h (asks.DayOf site day) only = refl
reading_left h (asks.SheetOf site day) only = refl
reading_left h (asks.Daily site from to) only = refl
reading_left h (asks.Measurement site number) only = refl
reading_left h (asks.EditOf number) only = refl
reading_left h (asks.Turns count) only = (0, omega arith, refl)
reading_left h asks.Settle only = absurd only
reading_left h asks.Counts only = refl

-- so it was answered by what is told of the history, or there was no memory for that
pub by_reading : {X E : Type 0} (r : Result X E) (told : Told) (h : History) (ask : Ask) (reply : List ℕ) → IsReading ask
    → OnOk r (reply ≡ reply_to h ask) → OnOk r (told ≡ tells.Made) → OnErr r (told ≡ tells.NoMemory) → IsAnswered h ask (told_bytes told reply) h
by_reading (Ok x) told h ask reply only is made not = inl (ap (λ (t : Told). told_bytes t reply) made ∙ is, reading_after h ask only)
by_reading (Err e) told h ask reply only is made not = inr (inr (ap (λ (t : Told). told_bytes t reply) not, reading_left h ask only))

-- no turns are told by how many days are pending
pub no_turns : (h : History) (count pending : ℕ) → count ≡ 0 → pending ≡ length (pending_days h.events)
    → bytes_of (replies.Turned pending 0) ≡ reply_to h (asks.Turns count)
unfolding after_turns
no_turns h count pending none is =
    let nothing : 0 ≡ length h.events - length h.events = omega arith in
    ap (λ (n : ℕ). bytes_of (replies.Turned n 0)) is
    ∙ ap (λ (n : ℕ). bytes_of (replies.Turned (length (pending_days h.events)) n)) nothing
    ∙ ap (λ (n : ℕ). reply_to h (asks.Turns n)) (sym none)

-- a refusal for want of memory is told as want of memory
no_memory : (reply : List ℕ) → told_of.IsRefusedBy refusals.NoMemory reply → reply ≡ memory_reply
unfolding bytes_of
no_memory reply (inl is) = is
no_memory reply (inr is) = is

module _ (h : History) (edit : Edit) (reply : List ℕ) (next : History) where
  -- an edit of this verdict was answered by it
  by_verdict : (v : Verdict) → verdict h edit ≡ v → reply ≡ edit_reply v (length (accepted h.events) + 1) → next ≡ history_by v h edit
      → IsAnswered h (asks.Edit edit) reply next
  by_verdict v is told after = inl (
    told ∙ ap (λ (w : Verdict). edit_reply w (length (accepted h.events) + 1)) (sym is),
    after ∙ ap (λ (w : Verdict). history_by w h edit) (sym is),
  )

  -- there was no memory for it
  pub forgone : reply ≡ memory_reply → next ≡ h → IsAnswered h (asks.Edit edit) reply next
  forgone is same = inr (inr (is, same))

  refused : (refusal : Refusal) → IsRefused h edit next refusal
      → (reply ≡ bytes_of (replies.Refused refusal)) ⊎ (reply ≡ memory_reply) → IsAnswered h (asks.Edit edit) reply next
  refused refusal is (inl told) = by_verdict (Refuses refusal) is.0 told is.1
  refused refusal is (inr none) = forgone none is.1

  -- an edit that was refused
  pub refused_by : (refusal : Refusal) → IsRefusedBy h edit next refusal → told_of.IsRefusedBy refusal reply
      → ((in_doubt : Bool) → refusal ≡ refusals.JournalFault in_doubt → reply ≡ fault_reply in_doubt)
      → IsAnswered h (asks.Edit edit) reply next
  refused_by (refusals.RefReused n) is told fault = refused (refusals.RefReused n) is told
  refused_by refusals.NoStation is told fault = refused refusals.NoStation is told
  refused_by refusals.StationExists is told fault = refused refusals.StationExists is told
  refused_by (refusals.Limit which) is told fault = refused (refusals.Limit which) is told
  refused_by refusals.NoRating is told fault = refused refusals.NoRating is told
  refused_by refusals.RatingExists is told fault = refused refusals.RatingExists is told
  refused_by (refusals.PeriodOverlap from) is told fault = refused (refusals.PeriodOverlap from) is told
  refused_by refusals.NoEntry is told fault = refused refusals.NoEntry is told
  refused_by (refusals.NotInReview day) is told fault = refused (refusals.NotInReview day) is told
  refused_by (refusals.SamePerson day) is told fault = refused (refusals.SamePerson day) is told
  refused_by (refusals.Awaits day number) is told fault = refused (refusals.Awaits day number) is told
  refused_by (refusals.NotApproved day) is told fault = refused (refusals.NotApproved day) is told
  refused_by (refusals.AlreadyApproved day) is told fault = refused (refusals.AlreadyApproved day) is told
  refused_by (refusals.Locked day) is told fault = refused (refusals.Locked day) is told
  refused_by (refusals.HistoryFull full) is told fault = refused (refusals.HistoryFull full) is told
  refused_by refusals.NoComments is told fault = refused refusals.NoComments is told
  refused_by refusals.JournalFull is told fault = refused refusals.JournalFull is told
  refused_by refusals.NoMemory is told fault = forgone (no_memory reply told) is
  refused_by (refusals.JournalFault in_doubt) is told fault = inr (inl (in_doubt, fault in_doubt refl, is))

marked : (ends before now : Bool) → now ≡ (if ends then false else before) → before ≡ false → now ≡ false
marked true before now is none = is
marked false before now is none = is ∙ none

-- where no claim is out, an edit that is taken brings none out
takes_none : (old new : Registered) (edit : Edit) (again : Bool) → TakesClaims old edit new again → NoneOut old → NoneOut new
takes_none old new edit true keeps none = λ site day. keeps site day ∙ none site day
takes_none old new edit false marks none = λ site day. marked _ _ _ (marks site day) (none site day)

pub edits_none : (old new : Registered) (edit : Edit) (told : Result Accepted Refusal) → EditsClaims old edit new told → NoneOut old → NoneOut new
edits_none old new edit (Ok told) claims none = takes_none old new edit told.repeated claims none
edits_none old new edit (Err refusal) keeps none = λ site day. keeps site day ∙ none site day

-- the replies to an edit that was accepted, and of a journal that failed, are not that of want of memory: their statuses differ
abbrev has_at : ℕ → ℕ → List ℕ → Bool
has_at place code bytes = get_or bytes place 0 == code

accepted_told : (number : ℕ) (repeated : Bool) → bytes_of (replies.Edit number repeated) ≡ memory_reply → ⊥
unfolding bytes_of digits
accepted_told number repeated e =
    let apart : false ≡ true = ap (has_at 9 53) e in
    true≢false (sym apart)

fault_told : (in_doubt : Bool) → fault_reply in_doubt ≡ memory_reply → ⊥
unfolding bytes_of digits
fault_told in_doubt e =
    let apart : false ≡ true = ap (has_at 11 55) e in
    true≢false (sym apart)

-- so it is not told where an acceptance was made
pub made_told : (told : Told) (reply : List ℕ) (number : ℕ) (repeated : Bool) → told ≡ tells.Made → reply ≡ bytes_of (replies.Edit number repeated)
    → told_bytes told reply ≡ memory_reply → ⊥
made_told told reply number repeated made is none =
    accepted_told number repeated (sym is ∙ ap (λ (t : Told). told_bytes t reply) (sym made) ∙ none)

-- want of memory is told of a refused edit only where the disk was not asked
pub unwritten : (refusal : Refusal) (told : Told) (reply : List ℕ)
    → ((in_doubt : Bool) → refusal ≡ refusals.JournalFault in_doubt → told ≡ tells.JournalFault in_doubt)
    → told_bytes told reply ≡ memory_reply → is_fault refusal ≡ false
unwritten (refusals.RefReused n) told reply fault none = refl
unwritten refusals.NoStation told reply fault none = refl
unwritten refusals.StationExists told reply fault none = refl
unwritten (refusals.Limit which) told reply fault none = refl
unwritten refusals.NoRating told reply fault none = refl
unwritten refusals.RatingExists told reply fault none = refl
unwritten (refusals.PeriodOverlap from) told reply fault none = refl
unwritten refusals.NoEntry told reply fault none = refl
unwritten (refusals.NotInReview day) told reply fault none = refl
unwritten (refusals.SamePerson day) told reply fault none = refl
unwritten (refusals.Awaits day number) told reply fault none = refl
unwritten (refusals.NotApproved day) told reply fault none = refl
unwritten (refusals.AlreadyApproved day) told reply fault none = refl
unwritten (refusals.Locked day) told reply fault none = refl
unwritten (refusals.HistoryFull full) told reply fault none = refl
unwritten refusals.NoComments told reply fault none = refl
unwritten refusals.JournalFull told reply fault none = refl
unwritten refusals.NoMemory told reply fault none = refl
unwritten (refusals.JournalFault in_doubt) told reply fault none =
    absurd (fault_told in_doubt (ap (λ (t : Told). told_bytes t reply) (sym (fault in_doubt refl)) ∙ none))

-- an edit that is told want of memory leaves the history
own_leaves : (v : Verdict) (h : History) (edit : Edit) (number : ℕ) → memory_reply ≡ edit_reply v number → history_by v h edit ≡ h
own_leaves (Repeats earlier) h edit number told = refl
own_leaves (Refuses refusal) h edit number told = refl
own_leaves Accepts h edit number told = absurd (accepted_told number false (sym told))

pub memory_leaves : (h : History) (edit : Edit) (next : History) → IsAnswered h (asks.Edit edit) memory_reply next → next ≡ h
memory_leaves h edit next (inl own) = own.1 ∙ own_leaves (verdict h edit) h edit (length (accepted h.events) + 1) own.0
memory_leaves h edit next (inr (inl fails)) = absurd (fault_told fails.0 (sym fails.1))
memory_leaves h edit next (inr (inr none)) = none.1
