-- What is told of a day in a course of steps is true.
use Rattle.std.specs.Prelude.{◌≡◌, ◌⊎◌, ℕ, ◌+◌, Bool, true, false, if◌then◌else◌, List, [], ◌∷◌, ◌++◌, length, Option, Some, None, is_some, Result, Ok, Err, ℤ}
use Rattle.std.proofs.Common.{refl, ap, sym, subst, ◌∙◌, inl, inr, arith, append-nil, append_assoc}
use Rattle.daily_values.specs.declared.day_values.DayValue.{DayValue}
use Rattle.depend.specs.Compared.{days_within}
use Rattle.desk.proofs.CourseLemmas.{coming, course_over}
use Rattle.desk.specs.Courses.{AnswersInSteps, AreTrueOf, Asks, Coming, IsCourse, IsTrueIn, IsTrueOf, TellsDay, TellsDays, TellsEdit, edit_told, is_of_kept, status_of, table_told}
use Rattle.desk.specs.Replies.{IsAnswered, day_reply}
use Rattle.desk.specs.Replying.{AreReplies, IsAnsweredBy, IsReplied, memory_reply}
use Rattle.edits.specs.declared.content.Edit.{Edit}
use Rattle.fixed_units.specs.Quantities.{SiteNumber}
use Rattle.history.specs.Accepted.{edits_of, stations_at}
use Rattle.history.specs.Awaited.{Computed, DayAnswer, NoStation, Pending, answer_at, answer_by, awaited, value_at}
use Rattle.history.specs.Events.{History}
use Rattle.history.specs.Legal.{IsLegal}
use Rattle.http_api.proofs.AskLemmas.{are_told}
use Rattle.http_api.specs.Asks.{Question, ask_of}
use Rattle.http_api.specs.declared.asks.Ask.{Ask}
use Rattle.http_api.specs.declared.asks.Ask.TheVariants as asks
use Rattle.http_api.specs.declared.asks.Denied.{Denied}
use Rattle.office.proofs.CourseLemmas.{computed_from_scratch, edits_after, joined, pending_names_last, told_ever_after, told_next}
use Rattle.office.specs.Steps.{Step, AnAnswer, AnEdit, GoesOver, added}
use Rattle.office.specs.declared.offices.Accepted.{Accepted}
use Rattle.office_inputs.specs.Stations.{station_of, stations_of}
use Rattle.office_inputs.specs.declared.refusals.Refusal.{Refusal}
use Rattle.register.specs.Registered.{Registered}
use Rattle.wire.specs.declared.messages.Message.{Message}
use Rattle.wire.specs.declared.messages.Message.TheVariants as messages

-- an answer of an office is true of the edits that it has accepted
by_answer : (office : Registered) (site : SiteNumber) (day : ℤ) (told : DayAnswer)
    → GoesOver office (AnAnswer site day told ∷ []) office → IsTrueIn (edits_of office.history.events ++ added []) site day told
by_answer office site day (Computed value) g = computed_from_scratch office office [] [] site day value g
by_answer office site day (Pending number) g = pending_names_last office office [] [] site day number g
by_answer office site day NoStation g = tt

-- an answer is one for a station that is kept exactly where the station is
kept_where : (kept : Bool) (awaited : Option ℕ) (value : DayValue) → kept ≡ is_of_kept (if kept then answer_by awaited value else NoStation)
kept_where true None value = refl
kept_where true (Some edit) value = refl
kept_where false awaited value = refl

answer_is_true : (office : Registered) (site : SiteNumber) (day : ℤ) (told : DayAnswer) (edits : List Edit)
    → edits_of office.history.events ≡ edits → told ≡ answer_at office.history.events site day → IsTrueOf edits site day told
answer_is_true office site day told edits are is =
    let events = office.history.events in (
      ap (λ (l : List Edit). is_some (station_of (stations_of l) site)) (sym are)
          ∙ kept_where (is_some (station_of (stations_at events) site)) (awaited events site day) (value_at events site day) ∙ ap is_of_kept (sym is),
      subst (λ (l : List Edit). IsTrueIn l site day told) (append-nil (edits_of events) ∙ are)
          (by_answer office site day told (office, (is, record { history = refl; claims = λ s d. refl }), refl)),
    )

answers_are_true : (office : Registered) (site : SiteNumber) (edits : List Edit) → edits_of office.history.events ≡ edits → (days : List ℤ)
    → AreTrueOf edits site days (answer_at office.history.events site)
answers_are_true office site edits are [] = tt
answers_are_true office site edits are (d ∷ days) =
    (answer_is_true office site d (answer_at office.history.events site d) edits are refl, answers_are_true office site edits are days)

-- A message among others, and its reply among theirs.
record Parted (x : Coming) (before : List Message) (told : List (List ℕ)) (message : Message) (reply : List ℕ) : Type 0 where
  at : Coming
  next : Coming
  first : AreReplies AnswersInSteps x before told at
  here : IsReplied AnswersInSteps at message reply next

parted : (x y : Coming) (before behind : List Message) (message : Message) (told more : List (List ℕ)) (reply : List ℕ)
    → length told ≡ length before → AreReplies AnswersInSteps x (before ++ message ∷ behind) (told ++ reply ∷ more) y
    → Parted x before told message reply
parted x y [] behind message [] more reply same is = record { at = x; next = is.0; first = refl; here = is.1 }
parted x y [] behind message (r ∷ told) more reply same is = let none : ⊥ = omega (arith, same) in absurd none
parted x y (m ∷ before) behind message [] more reply same is = let none : ⊥ = omega (arith, same) in absurd none
parted x y (m ∷ before) behind message (r ∷ told) more reply same is =
    let rest = parted is.0 y before behind message told more reply (omega (arith, same)) is.2 in
    record { at = rest.at; next = rest.next; first = (is.0, is.1, rest.first); here = rest.here }

-- the answer to what a message asks, unless there was no memory to read it
asked_by : (at next : Coming) (message : Message) (ask : Ask) (reply : List ℕ) → Asks message ask → IsReplied AnswersInSteps at message reply next
    → AnswersInSteps at ask reply next ⊎ (reply ≡ memory_reply)
asked_by at next (messages.Request verb target body) ask reply its (inl is) =
    let told = subst (λ (a : Result Question Denied). IsAnsweredBy AnswersInSteps at a reply next) its is in
    inl (subst (λ (a : Ask). AnswersInSteps at a reply next) (are_told told.0 ask told.1) told.2)
asked_by at next (messages.Request verb target body) ask reply its (inr none) = inr none.0
asked_by at next messages.NoLength ask reply its is = absurd its
asked_by at next messages.TooLarge ask reply its is = absurd its
asked_by at next messages.NoMemory ask reply its is = absurd its
asked_by at next messages.End ask reply its is = absurd its
asked_by at next (messages.Malformed place) ask reply its is = absurd its
asked_by at next messages.Long ask reply its is = absurd its
asked_by at next messages.Failed ask reply its is = absurd its

-- what is told of a day by whatever the office has answered for it
day_told : (at : Registered) (site : SiteNumber) (day : ℤ) (reply : List ℕ) (edits : List Edit) (next : History) → edits_of at.history.events ≡ edits
    → IsAnswered at.history (asks.DayOf site day) reply next → TellsDay edits site day reply
day_told at site day reply edits next are (inl due) =
    let told = answer_at at.history.events site day in
    inl (
      told,
      subst (λ (l : List Edit). reply ≡ day_reply (status_of l site day) told) are due.0,
      answer_is_true at site day told edits are refl,
    )
day_told at site day reply edits next are (inr (inl fails)) = absurd fails
day_told at site day reply edits next are (inr (inr left)) = inr left.0

days_told : (at : Registered) (site : SiteNumber) (from to : ℤ) (reply : List ℕ) (edits : List Edit) (next : History)
    → edits_of at.history.events ≡ edits → IsAnswered at.history (asks.Daily site from to) reply next → TellsDays edits site from to reply
days_told at site from to reply edits next are (inl due) =
    let told = answer_at at.history.events site in
    inl (
      told,
      subst (λ (l : List Edit). reply ≡ table_told l site from to told) are due.0,
      answers_are_true at site edits are (days_within from to),
    )
days_told at site from to reply edits next are (inr (inl fails)) = absurd fails
days_told at site from to reply edits next are (inr (inr left)) = inr left.0

-- A course up to a message: the messages before it are replied to in the steps that are taken before it, whatever comes behind them.
record Begun (x y : Coming) (ms : List Message) (rs : List (List ℕ)) : Type 0 where
  mine : List Step
  splits : x.steps ≡ mine ++ y.steps
  course : IsCourse x.office mine ms rs y.office

record Replied (x y : Coming) (m : Message) (r : List ℕ) : Type 0 where
  mine : List Step
  splits : x.steps ≡ mine ++ y.steps
  is : (rest : List Step) → IsReplied AnswersInSteps (coming x.office (mine ++ rest)) m r (coming y.office rest)

-- nothing is taken where nothing was asked
still : (x y : Coming) → y ≡ x → (rest : List Step) → coming y.office rest ≡ coming x.office rest
still x y same rest = ap (λ (c : Coming). coming c.office rest) same

none_taken : (x y : Coming) → y ≡ x → x.steps ≡ [] ++ y.steps
none_taken x y same = ap (λ (c : Coming). c.steps) (sym same)

answered_before : (x y : Coming) (a : Result Question Denied) (r : List ℕ) → IsAnsweredBy AnswersInSteps x a r y
    → (mine : List Step) × (x.steps ≡ mine ++ y.steps)
    × ((rest : List Step) → IsAnsweredBy AnswersInSteps (coming x.office (mine ++ rest)) a r (coming y.office rest))
answered_before x y (Ok question) r is =
    let own = is.2 in (
      own.mine,
      own.splits,
      λ rest. (
        is.0,
        is.1,
        record { mine = own.mine; splits = refl; over = own.over; calls = own.calls; answered = own.answered; told = own.told },
      ),
    )
answered_before x y (Err denied) r is = ([], none_taken x y is.1, λ rest. (is.0, still x y is.1 rest))

replied_before : (x y : Coming) (m : Message) (r : List ℕ) → IsReplied AnswersInSteps x m r y → Replied x y m r
replied_before x y (messages.Request verb target body) r (inl is) =
    let a = answered_before x y (ask_of verb target body) r is in record { mine = a.0; splits = a.1; is = λ rest. inl (a.2 rest) }
replied_before x y (messages.Request verb target body) r (inr left) =
    record { mine = []; splits = none_taken x y left.1; is = λ rest. inr (left.0, still x y left.1 rest) }
replied_before x y messages.NoLength r is =
    record { mine = []; splits = none_taken x y is.1; is = λ rest. (is.0, still x y is.1 rest) }
replied_before x y messages.TooLarge r is =
    record { mine = []; splits = none_taken x y is.1; is = λ rest. (is.0, still x y is.1 rest) }
replied_before x y messages.NoMemory r is =
    record { mine = []; splits = none_taken x y is.1; is = λ rest. (is.0, still x y is.1 rest) }
replied_before x y messages.End r is = absurd is
replied_before x y (messages.Malformed at) r is = absurd is
replied_before x y messages.Long r is = absurd is
replied_before x y messages.Failed r is = absurd is

begun : (x y : Coming) (ms : List Message) (rs : List (List ℕ)) → AreReplies AnswersInSteps x ms rs y → Begun x y ms rs
begun x y [] [] is = record { mine = []; splits = none_taken x y is; course = still x y is [] }
begun x y [] (r ∷ rs) is = absurd is
begun x y (m ∷ ms) [] is = absurd is
begun x y (m ∷ ms) (r ∷ rs) is =
    let first = replied_before x is.0 m r is.1 in
    let more = begun is.0 y ms rs is.2 in
    record {
      mine = first.mine ++ more.mine;
      splits =
          first.splits ∙ ap (λ (l : List Step). first.mine ++ l) more.splits ∙ sym (append_assoc first.mine more.mine y.steps);
      course = (coming is.0.office more.mine, first.is more.mine, more.course);
    }

-- the steps before a message of a course, in which the messages before it are replied to, and what its reply tells of the edits that were
-- accepted so far
module _ (old new : Registered) (steps : List Step) (before behind : List Message) (message : Message) (told more : List (List ℕ)) (reply : List ℕ)
    (same : length told ≡ length before) (course : IsCourse old steps (before ++ message ∷ behind) (told ++ reply ∷ more) new) where
  there : Parted (coming old steps) before told message reply
  there = parted (coming old steps) (coming new []) before behind message told more reply same course

  so_far : (p : Parted (coming old steps) before told message reply) → Begun (coming old steps) p.at before told
  so_far p = begun (coming old steps) p.at before told p.first

  edits_so_far : (p : Parted (coming old steps) before told message reply) (b : Begun (coming old steps) p.at before told)
      → edits_of p.at.office.history.events ≡ edits_of old.history.events ++ added b.mine
  edits_so_far p b = edits_after old b.mine p.at.office (course_over old b.mine before told p.at.office b.course).0

  pub day_is_true : (site : SiteNumber) (day : ℤ) → Asks message (asks.DayOf site day)
      → (mid : Registered) × (first rest : List Step) × (steps ≡ first ++ rest) × IsCourse old first before told mid
      × TellsDay (edits_of old.history.events ++ added first) site day reply
  day_is_true site day its =
      let p = there in
      let b = so_far p in (
        p.at.office,
        b.mine,
        p.at.steps,
        b.splits,
        b.course,
        elim (asked_by p.at p.next message (asks.DayOf site day) reply its p.here) [
          | inl is ↦
              day_told p.at.office site day reply (edits_of old.history.events ++ added b.mine) p.next.office.history (edits_so_far p b)
              is.answered
          | inr none ↦ inr none
        ],
      )

  pub days_are_true : (site : SiteNumber) (from to : ℤ) → Asks message (asks.Daily site from to)
      → (mid : Registered) × (first rest : List Step) × (steps ≡ first ++ rest) × IsCourse old first before told mid
      × TellsDays (edits_of old.history.events ++ added first) site from to reply
  days_are_true site from to its =
      let p = there in
      let b = so_far p in (
        p.at.office,
        b.mine,
        p.at.steps,
        b.splits,
        b.course,
        elim (asked_by p.at p.next message (asks.Daily site from to) reply its p.here) [
          | inl is ↦
              days_told p.at.office site from to reply (edits_of old.history.events ++ added b.mine) p.next.office.history (edits_so_far p b)
              is.answered
          | inr none ↦ inr none
        ],
      )

  -- and what the reply to an edit tells, whatever steps come behind the course
  tells_edit : (edit : Edit) (further : List Step) (later : Registered) → IsLegal old.history → GoesOver new further later
      → (p : Parted (coming old steps) before told message reply) (b : Begun (coming old steps) p.at before told)
      → (answered : Result Accepted Refusal) → p.at.steps ≡ AnEdit edit answered ∷ p.next.steps → reply ≡ edit_told answered
      → TellsEdit (edits_of old.history.events ++ added b.mine) edit reply later.history
  tells_edit edit further later legal goes p b (Ok taken) splits is =
      let after : List Step = p.next.steps ++ further in
      let all : steps ++ further ≡ b.mine ++ AnEdit edit (Ok taken) ∷ after =
      ap (λ (l : List Step). l ++ further) (b.splits ∙ ap (λ (l : List Step). b.mine ++ l) splits)
      ∙ append_assoc b.mine (AnEdit edit (Ok taken) ∷ p.next.steps) further in
      let over : GoesOver old (b.mine ++ AnEdit edit (Ok taken) ∷ after) later =
      subst (λ (l : List Step). GoesOver old l later) all
      (joined old steps further new later (course_over old steps (before ++ message ∷ behind) (told ++ reply ∷ more) new course).0 goes) in
      inl (
        taken,
        is,
        told_ever_after old later b.mine after edit taken legal over,
        λ first. told_next old later b.mine after edit taken first over,
      )
  tells_edit edit further later legal goes p b (Err refusal) splits is = inr (inl (refusal, is))

  pub edit_stays : (edit : Edit) (further : List Step) (later : Registered) → IsLegal old.history → GoesOver new further later
      → Asks message (asks.Edit edit)
      → (mid : Registered) × (first rest : List Step) × (steps ≡ first ++ rest) × IsCourse old first before told mid
      × TellsEdit (edits_of old.history.events ++ added first) edit reply later.history
  edit_stays edit further later legal goes its =
      let p = there in
      let b = so_far p in (
        p.at.office,
        b.mine,
        p.at.steps,
        b.splits,
        b.course,
        elim (asked_by p.at p.next message (asks.Edit edit) reply its p.here) [
          | inl is ↦
              tells_edit edit further later legal goes p b is.told.0
              (is.splits ∙ ap (λ (l : List Step). l ++ p.next.steps) is.told.1) is.told.2
          | inr none ↦ inr (inr none)
        ],
      )
