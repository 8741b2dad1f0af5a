-- Messages that are replied to by an office that nobody else asks are replied to in its steps.
use Rattle.std.specs.Prelude.{◌≡◌, ◌⊎◌, ℕ, zero, suc, ◌+◌, ◌<◌, ◌≤◌, Bool, true, false, if◌then◌else◌, List, [], ◌∷◌, ◌++◌, length, map, take, is_some, All, option_map, Result, Ok, Err, ℤ}
use Rattle.std.proofs.Common.{refl, ap, sym, subst, ◌∙◌, inl, inr, arith, append-nil, append_assoc}
use Rattle.std.proofs.lemmas.List.{take_all}
use Rattle.std.proofs.lemmas.List.Elements.{All-append, All-cons, All-nil}
use Rattle.desk.proofs.FaultLemmas.{of_replied}
use Rattle.desk.proofs.TurnLemmas.{turn_is}
use Rattle.depend.specs.Compared.{days_within}
use Rattle.desk.specs.Courses.{AnswersInSteps, AreStepsOf, Coming, IsATurn, IsCourse, answers_within, edit_told}
use Rattle.desk.specs.Replies.{AreReplies, Fails, IsAnswered, IsLeftBy, edit_reply, history_after, history_by, reply_to}
use Rattle.desk.specs.Replying as replying
use Rattle.desk.specs.Replying.{IsAnsweredBy, IsReplied, memory_reply}
use Rattle.edits.specs.declared.content.Edit.{Edit}
use Rattle.fixed_units.specs.Quantities.{SiteNumber}
use Rattle.history.specs.Accepted.{accepted, stations_at}
use Rattle.history.specs.After.{after_publications, after_settlement, after_turn, after_turns}
use Rattle.history.specs.Awaited.{answer_at, pending_days}
use Rattle.history.specs.Events.{History}
use Rattle.history.specs.Statuses.{status_at}
use Rattle.history.specs.Verdicts.{Verdict, Repeats, Refuses, Accepts, verdict}
use Rattle.http_api.specs.Asks.{Question, ask_of}
use Rattle.http_api.specs.Replies.{bytes_of}
use Rattle.http_api.specs.declared.asks.Ask.{Ask}
use Rattle.http_api.specs.declared.asks.Ask.TheVariants as asks
use Rattle.http_api.specs.declared.asks.Denied.{Denied}
use Rattle.http_api.specs.declared.replies.Reply.TheVariants as replies
use Rattle.office.proofs.CourseLemmas.{joined}
use Rattle.office.proofs.RefusedLemmas.{is_refused}
use Rattle.office.specs.Steps.{Step, AnEdit, ATurn, ASettlement, AnAnswer, GoesOver, IsCall, IsStep}
use Rattle.office.specs.declared.offices.Accepted.{Accepted}
use Rattle.office_inputs.specs.Stations.{station_of}
use Rattle.office_inputs.specs.declared.refusals.Refusal.{Refusal}
use Rattle.office_inputs.specs.declared.refusals.Refusal.TheVariants as refusals
use Rattle.register.specs.Asked.{as_pair}
use Rattle.register.specs.Registered.{IsSettledTo, NoneOut, Registered, first_unclaimed}
use Rattle.wire.specs.declared.messages.Message.{Message}
use Rattle.wire.specs.declared.messages.Message.TheVariants as messages

-- an office whose history has gone on, with the same claims out
abbrev pub at_history : Registered → History → Registered
at_history old next = record old { history = next }

-- and the steps that are still to come
abbrev pub coming : Registered → List Step → Coming
coming office steps = record { office = office; steps = steps }

-- no memory for an edit and no memory for its reply are told alike
refused_memory : memory_reply ≡ bytes_of (replies.Refused refusals.NoMemory)
unfolding bytes_of
refused_memory = refl

-- a claim that is not out is not out then
pub not_out : (among out : Bool) → out ≡ false → out ≡ (if among then false else out)
not_out true out none = none
not_out false out none = refl

-- what is answered to an edit by its verdict
answer_by : Verdict → History → Result Accepted Refusal
answer_by (Repeats number) h = Ok (record { number = number; repeated = true })
answer_by (Refuses refusal) h = Err refusal
answer_by Accepts h = Ok (record { number = length (accepted h.events) + 1; repeated = false })

reply_by : (said : Verdict) (h : History) → edit_reply said (length (accepted h.events) + 1) ≡ edit_told (answer_by said h)
unfolding answer_by
reply_by (Repeats number) h = refl
reply_by (Refuses refusal) h = refl
reply_by Accepts h = refl

-- one number is below another, or is it
less_or_same : (m n : ℕ) → m ≤ n → (m < n) ⊎ (m ≡ n)
less_or_same zero zero few = inr refl
less_or_same zero (suc n) few = inl (omega arith)
less_or_same (suc m) zero few = let none : ⊥ = omega (arith, few) in absurd none
less_or_same (suc m) (suc n) few = elim (less_or_same m n (omega (arith, few))) [
  | inl less ↦ inl (omega (arith, less))
  | inr same ↦ inr (ap suc same)
]

-- turns, one behind another
record Turns (n : ℕ) (old : Registered) : Type 0 where
  steps : List Step
  over : GoesOver old steps (at_history old (after_turns n old.history))
  calls : All IsCall steps
  turns : All IsATurn steps

turns_over : (n : ℕ) (old : Registered) → NoneOut old → Turns n old
unfolding after_turns
turns_over zero old none = record { steps = []; over = refl; calls = All-nil IsCall; turns = All-nil IsATurn }
turns_over (suc n) old none =
    let mid = at_history old (after_turn old.history) in
    let step = ATurn (Ok (option_map as_pair (first_unclaimed old))) in
    let rest = turns_over n mid none in
    record {
      steps = step ∷ rest.steps;
      over = (mid, (refl, sym (turn_is old none), λ site day. refl), rest.over);
      calls = All-cons IsCall step rest.steps tt rest.calls;
      turns = All-cons IsATurn step rest.steps tt rest.turns;
    }

-- An ask at an office with no claim out is answered in these steps, which lead to the history that its answer leaves.
pub record Stepped (old : Registered) (ask : Ask) (reply : List ℕ) (next : History) : Type 0 where
  pub mine : List Step
  pub over : GoesOver old mine (at_history old next)
  pub calls : All IsCall mine
  pub told : AreStepsOf ask reply mine

module _ (old : Registered) (none : NoneOut old) where
  by_step : (ask : Ask) (reply : List ℕ) (next : History) (step : Step) → IsStep old step (at_history old next) → IsCall step
      → AreStepsOf ask reply (step ∷ []) → Stepped old ask reply next
  by_step ask reply next step is call told = record {
    mine = step ∷ [];
    over = (at_history old next, is, refl);
    calls = All-cons IsCall step [] call (All-nil IsCall);
    told = told;
  }

  by_none : (ask : Ask) (reply : List ℕ) (next : History) → next ≡ old.history → AreStepsOf ask reply [] → Stepped old ask reply next
  by_none ask reply next same told = record { mine = []; over = ap (at_history old) same; calls = All-nil IsCall; told = told }

  -- an edit
  edit_step : (edit : Edit) (said : Verdict) → verdict old.history edit ≡ said
      → IsStep old (AnEdit edit (answer_by said old.history)) (at_history old (history_by said old.history edit))
  unfolding answer_by
  edit_step edit (Repeats number) is = ((is, refl), λ site day. refl)
  edit_step edit (Refuses refusal) is = (is_refused old.history edit refusal is, λ site day. refl)
  edit_step edit Accepts is = ((is, refl, refl), λ site day. not_out _ _ (none site day))

  edit_own : (edit : Edit) (reply : List ℕ) (next : History) → reply ≡ reply_to old.history (asks.Edit edit)
      → next ≡ history_after old.history (asks.Edit edit) → Stepped old (asks.Edit edit) reply next
  edit_own edit reply next told same =
      let said = verdict old.history edit in
      let step = AnEdit edit (answer_by said old.history) in
      by_step (asks.Edit edit) reply next step
      (subst (λ (x : History). IsStep old step (at_history old x)) (sym same) (edit_step edit said refl)) tt
      (answer_by said old.history, refl, told ∙ reply_by said old.history)

  edit_failed : (edit : Edit) (reply : List ℕ) (next : History) → Fails old.history (asks.Edit edit) reply next → Stepped old (asks.Edit edit) reply next
  edit_failed edit reply next fails =
      by_step (asks.Edit edit) reply next (AnEdit edit (Err (refusals.JournalFault fails.0))) (fails.2, λ site day. refl) tt
      (Err (refusals.JournalFault fails.0), refl, fails.1)

  edit_forgone : (edit : Edit) (reply : List ℕ) (next : History) → reply ≡ memory_reply → next ≡ old.history → Stepped old (asks.Edit edit) reply next
  edit_forgone edit reply next told same =
      by_step (asks.Edit edit) reply next (AnEdit edit (Err refusals.NoMemory)) (same, λ site day. refl) tt
      (Err refusals.NoMemory, refl, told ∙ refused_memory)

  -- what is known of days
  answer_step : (site : SiteNumber) (day : ℤ) (next : History) → next ≡ old.history
      → IsStep old (AnAnswer site day (answer_at old.history.events site day)) (at_history old next)
  answer_step site day next same = (refl, record { history = same; claims = λ s d. refl })

  answers_over : (site : SiteNumber) (days : List ℤ)
      → GoesOver old (map (λ day. AnAnswer site day (answer_at old.history.events site day)) days) old
      × All IsCall (map (λ day. AnAnswer site day (answer_at old.history.events site day)) days)
  answers_over site [] = (refl, All-nil IsCall)
  answers_over site (d ∷ days) =
      let rest = answers_over site days in
      let step = AnAnswer site d (answer_at old.history.events site d) in
      ((old, answer_step site d old.history refl, rest.0), All-cons IsCall step _ tt rest.1)

  days_own : (site : SiteNumber) (from to : ℤ) (reply : List ℕ) (next : History) → reply ≡ reply_to old.history (asks.Daily site from to)
      → next ≡ old.history → Stepped old (asks.Daily site from to) reply next
  days_own site from to reply next told same =
      let events = old.history.events in
      let steps = answers_within site from to (answer_at events site) in
      let all = answers_over site (days_within from to) in
      record {
        mine = steps;
        over = subst (λ (x : Registered). GoesOver old steps x) (sym (ap (at_history old) same)) all.0;
        calls = all.1;
        told = inl (is_some (station_of (stations_at events) site), status_at events site, answer_at events site, refl, told);
      }

  -- turns and settlements
  turned : (count turns : ℕ) (reply : List ℕ) (next : History) → next ≡ after_turns turns old.history → Stepped old (asks.Turns count) reply next
  turned count turns reply next same =
      let all = turns_over turns old none in
      record {
        mine = all.steps;
        over = subst (λ (x : History). GoesOver old all.steps (at_history old x)) (sym same) all.over;
        calls = all.calls;
        told = all.turns;
      }

  settled_to : (count : ℕ) (next : History) → next ≡ after_publications old.history (take count (pending_days old.history.events))
      → IsSettledTo old (at_history old next) count
  settled_to count next same = record { settled = same; claims = λ site day. not_out _ _ (none site day) }

  settled : (count : ℕ) (reply : List ℕ) (next : History) → count ≤ length (pending_days old.history.events)
      → next ≡ after_publications old.history (take count (pending_days old.history.events)) → Stepped old asks.Settle reply next
  settled count reply next few same =
      let to = settled_to count next same in
      elim (less_or_same count (length (pending_days old.history.events)) few) [
        | inl less ↦ by_step asks.Settle reply next (ASettlement (Err (record {}))) (count, less, to) tt (Err (record {}), refl)
        | inr all ↦ by_step asks.Settle reply next (ASettlement (Ok count)) (all, to) tt (Ok count, refl)
      ]

  settled_all : (reply : List ℕ) (next : History) → next ≡ after_settlement old.history → Stepped old asks.Settle reply next
  settled_all reply next same =
      let days = pending_days old.history.events in
      settled (length days) reply next (omega arith)
      (same ∙ ap (after_publications old.history) (sym (take_all (length days) days (omega arith))))

  -- the office's own answer
  own : (ask : Ask) (reply : List ℕ) (next : History) → reply ≡ reply_to old.history ask → next ≡ history_after old.history ask
      → Stepped old ask reply next
  own (asks.Edit edit) reply next told same = edit_own edit reply next told same
  own (asks.Station site) reply next told same = by_none (asks.Station site) reply next same refl
  own (asks.DayOf site day) reply next told same =
      let events = old.history.events in
      by_step (asks.DayOf site day) reply next (AnAnswer site day (answer_at events site day)) (answer_step site day next same) tt
      (inl (status_at events site day, answer_at events site day, refl, told))
  own (asks.SheetOf site day) reply next told same = by_none (asks.SheetOf site day) reply next same refl
  own (asks.Daily site from to) reply next told same = days_own site from to reply next told same
  own (asks.Measurement site number) reply next told same = by_none (asks.Measurement site number) reply next same refl
  own (asks.EditOf number) reply next told same = by_none (asks.EditOf number) reply next same refl
  own (asks.Turns count) reply next told same = turned count count reply next same
  own asks.Settle reply next told same = settled_all reply next same
  own asks.Counts reply next told same = by_none asks.Counts reply next same refl

  -- that of a journal that failed
  failed : (ask : Ask) (reply : List ℕ) (next : History) → Fails old.history ask reply next → Stepped old ask reply next
  failed (asks.Edit edit) reply next fails = edit_failed edit reply next fails
  failed (asks.Station site) reply next fails = absurd fails
  failed (asks.DayOf site day) reply next fails = absurd fails
  failed (asks.SheetOf site day) reply next fails = absurd fails
  failed (asks.Daily site from to) reply next fails = absurd fails
  failed (asks.Measurement site number) reply next fails = absurd fails
  failed (asks.EditOf number) reply next fails = absurd fails
  failed (asks.Turns count) reply next fails = absurd fails
  failed asks.Settle reply next fails = absurd fails
  failed asks.Counts reply next fails = absurd fails

  -- that of want of memory
  forgone : (ask : Ask) (reply : List ℕ) (next : History) → reply ≡ memory_reply → IsLeftBy old.history ask next → Stepped old ask reply next
  forgone (asks.Edit edit) reply next told left = edit_forgone edit reply next told left
  forgone (asks.Station site) reply next told left = by_none (asks.Station site) reply next left refl
  forgone (asks.DayOf site day) reply next told left = by_none (asks.DayOf site day) reply next left (inr (refl, told))
  forgone (asks.SheetOf site day) reply next told left = by_none (asks.SheetOf site day) reply next left refl
  forgone (asks.Daily site from to) reply next told left = by_none (asks.Daily site from to) reply next left (inr (refl, told))
  forgone (asks.Measurement site number) reply next told left = by_none (asks.Measurement site number) reply next left refl
  forgone (asks.EditOf number) reply next told left = by_none (asks.EditOf number) reply next left refl
  forgone (asks.Turns count) reply next told left = turned count left.0 reply next left.2
  forgone asks.Settle reply next told left = settled left.0 reply next left.1 left.2
  forgone asks.Counts reply next told left = by_none asks.Counts reply next left refl

  pub in_steps : (ask : Ask) (reply : List ℕ) (next : History) → IsAnswered old.history ask reply next → Stepped old ask reply next
  in_steps ask reply next (inl due) = own ask reply next due.0 due.1
  in_steps ask reply next (inr (inl fails)) = failed ask reply next fails
  in_steps ask reply next (inr (inr left)) = forgone ask reply next left.0 left.1

  -- a message is replied to in the first of the steps that are still to come, whatever comes behind them
  record Replied (message : Message) (reply : List ℕ) (next : History) : Type 0 where
    mine : List Step
    is : (rest : List Step) → IsReplied AnswersInSteps (coming old (mine ++ rest)) message reply (coming (at_history old next) rest)

  still : (next : History) (rest : List Step) → next ≡ old.history → coming (at_history old next) rest ≡ coming old rest
  still next rest same = ap (λ (x : History). coming (at_history old x) rest) same

  asked : (a : Result Question Denied) (reply : List ℕ) (next : History) → IsAnsweredBy IsAnswered old.history a reply next
      → (mine : List Step)
      × ((rest : List Step) → IsAnsweredBy AnswersInSteps (coming old (mine ++ rest)) a reply (coming (at_history old next) rest))
  asked (Ok question) reply next is =
      let s = in_steps is.0 reply next is.2 in (
        s.mine,
        λ rest. (is.0, is.1, record { mine = s.mine; splits = refl; over = s.over; calls = s.calls; answered = is.2; told = s.told }),
      )
  asked (Err denied) reply next is = ([], λ rest. (is.0, still next rest is.1))

  replied : (message : Message) (reply : List ℕ) (next : History) → IsReplied IsAnswered old.history message reply next → Replied message reply next
  replied (messages.Request verb target body) reply next (inl is) =
      let a = asked (ask_of verb target body) reply next is in record { mine = a.0; is = λ rest. inl (a.1 rest) }
  replied (messages.Request verb target body) reply next (inr left) =
      record { mine = []; is = λ rest. inr (left.0, still next rest left.1) }
  replied messages.NoLength reply next is = record { mine = []; is = λ rest. (is.0, still next rest is.1) }
  replied messages.TooLarge reply next is = record { mine = []; is = λ rest. (is.0, still next rest is.1) }
  replied messages.NoMemory reply next is = record { mine = []; is = λ rest. (is.0, still next rest is.1) }
  replied messages.End reply next is = absurd is
  replied (messages.Malformed at) reply next is = absurd is
  replied messages.Long reply next is = absurd is
  replied messages.Failed reply next is = absurd is

-- and so are all messages
pub course_of : (old : Registered) → NoneOut old → (ms : List Message) (rs : List (List ℕ)) (after : History) → AreReplies old.history ms rs after
    → (steps : List Step) × IsCourse old steps ms rs (at_history old after)
course_of old none [] [] after is = ([], ap (λ (x : History). coming (at_history old x) []) is)
course_of old none [] (r ∷ rs) after is = absurd is
course_of old none (m ∷ ms) [] after is = absurd is
course_of old none (m ∷ ms) (r ∷ rs) after is =
    let first = replied old none m r is.0 is.1 in
    let more = course_of (at_history old is.0) none ms rs after is.2 in
    (first.mine ++ more.0, (coming (at_history old is.0) more.0, first.is more.0, more.1))

-- The steps that are taken from one point of a course to another.
pub record Taken (x y : Coming) : Type 0 where
  pub mine : List Step
  pub splits : x.steps ≡ mine ++ y.steps
  pub over : GoesOver x.office mine y.office
  pub calls : All IsCall mine

taken_none : (x y : Coming) → y ≡ x → Taken x y
taken_none x y same = record {
  mine = [];
  splits = ap (λ (c : Coming). c.steps) (sym same);
  over = ap (λ (c : Coming). c.office) same;
  calls = All-nil IsCall;
}

taken_more : (x y z : Coming) → Taken x y → Taken y z → Taken x z
taken_more x y z first rest = record {
  mine = first.mine ++ rest.mine;
  splits =
      first.splits ∙ ap (λ (l : List Step). first.mine ++ l) rest.splits ∙ sym (append_assoc first.mine rest.mine z.steps);
  over = joined x.office first.mine rest.mine y.office z.office first.over rest.over;
  calls = All-append IsCall first.mine rest.mine first.calls rest.calls;
}

taken_answered : (x y : Coming) (ask : Ask) (reply : List ℕ) → AnswersInSteps x ask reply y → Taken x y
taken_answered x y ask reply is = record { mine = is.mine; splits = is.splits; over = is.over; calls = is.calls }

pub taken_by : (x y : Coming) (ms : List Message) (rs : List (List ℕ)) → replying.AreReplies AnswersInSteps x ms rs y → Taken x y
taken_by x y [] [] is = taken_none x y is
taken_by x y [] (r ∷ rs) is = absurd is
taken_by x y (m ∷ ms) [] is = absurd is
taken_by x y (m ∷ ms) (r ∷ rs) is =
    taken_more x is.0 y
    (of_replied AnswersInSteps (λ from reply to. Taken from to) taken_answered (λ from to reply plain same. taken_none from to same) x is.0 m r is.1)
    (taken_by is.0 y ms rs is.2)

-- a course leads over its steps, each of which is a call
pub course_over : (old : Registered) (steps : List Step) (ms : List Message) (rs : List (List ℕ)) (new : Registered) → IsCourse old steps ms rs new
    → GoesOver old steps new × All IsCall steps
course_over old steps ms rs new is =
    let taken = taken_by (coming old steps) (coming new []) ms rs is in
    let all : taken.mine ≡ steps = sym (taken.splits ∙ append-nil taken.mine) in
    (subst (λ (l : List Step). GoesOver old l new) all taken.over, subst (All IsCall) all taken.calls)
