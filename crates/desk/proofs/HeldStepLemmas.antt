-- The holdings of a session are of steps of an office.
use Rattle.std.proofs.Common.{◌≡◌, ℕ, zero, suc, List, [], ◌∷◌, ◌++◌, Option, Some, None, IfSome, Ok, ℤ, refl, sym, ap, ◌∙◌, subst, inl, inr, append-nil}
use Rattle.std.specs.Prelude.{All, option_map, slice_get}
use Rattle.std.specs.List.{AllByRecursion}
use Rattle.std.proofs.lemmas.List.Elements.{All-cons, All-head, All-nil}
use Rattle.desk.proofs.CourseLemmas.{at_history, in_steps, not_out}
use Rattle.desk.proofs.DayByDayLemmas.{whole_settlement, whole_turns}
use Rattle.desk.proofs.FaultLemmas.{of_replied}
use Rattle.desk.proofs.GrowthLemmas.{Holdings}
use Rattle.shared_office.proofs.PassageLemmas.{go_on_none}
use Rattle.desk.specs.Behind.{AreTurnsPartly, IsAnswered, IsAnsweredAtOnce, IsLook, IsPublication, IsSettlementPartly, Uses, looked_at}
use Rattle.desk.specs.Courses.{IsHeldInSteps}
use Rattle.desk.specs.Replies as alone
use Rattle.desk.specs.Replying.{AreReplies, IsReplied}
use Rattle.fixed_units.specs.Quantities.{IsDay, SiteNumber}
use Rattle.history.specs.Accepted.{stations_at}
use Rattle.history.specs.After.{go_on, publication}
use Rattle.history.specs.Awaited.{SiteDay, pending_days}
use Rattle.history.specs.Events.{Event, History}
use Rattle.http_api.specs.declared.asks.Ask.{Ask}
use Rattle.http_api.specs.declared.asks.Ask.TheVariants as asks
use Rattle.office.specs.Steps.{ALook, APublication, IsCall, Publishes}
use Rattle.recompute.specs.Jobs.{DayJob}
use Rattle.recompute.specs.declared.jobs.Publish.{Publish}
use Rattle.recompute.specs.declared.jobs.Publish.TheVariants.{Foreign, Published, Settled, Superseded}
use Rattle.register.proofs.FoundLemmas.{found_of_all}
use Rattle.register.proofs.LimitLemmas.{days_are}
use Rattle.register.specs.Asked.{comes_after, day_of, job_at, next_after, outcome_at}
use Rattle.register.specs.Registered.{NoneOut, Registered}
use Rattle.shared_office.proofs.GivenLemmas.{found_day, next_pending}
use Rattle.shared_office.proofs.TaskLemmas.{history_on}
use Rattle.shared_office.specs.Entries.{events_in, history_of}
use Rattle.shared_office.specs.Finding.{published_by}
use Rattle.shared_office.specs.Holdings.{Holding}
use Rattle.shared_office.specs.Passing.{adding}
use Rattle.shared_office.specs.declared.entries.Entry.{Entry}
use Rattle.shared_office.specs.declared.entries.Fixed.{Fixed}
use Rattle.wire.specs.declared.messages.Message.{Message}

-- a day that is looked for is one of the calendar
abbrev HasDay : SiteDay → Type 0
HasDay d = IsDay d.day

first_day : (days : List SiteDay) → All HasDay days → IfSome (slice_get days 0) HasDay
first_day [] all = tt
first_day (d ∷ days) all = All-head HasDay d days all

next_day : (events : List Event) (last : Option (SiteNumber × ℤ)) → IfSome (next_after last (pending_days events)) HasDay
next_day events None = first_day (pending_days events) (days_are events (stations_at events))
next_day events (Some last) = found_of_all HasDay (comes_after last.0 last.1) (pending_days events) (days_are events (stations_at events))

module _ (fixed : Fixed) where
  looked_day : (last : Option (SiteNumber × ℤ)) (job : DayJob) (x : Holding (List Entry)) → IsLook fixed last (Some job) x → IsDay job.day
  looked_day last job x is =
      let events = events_in x.from in
      let d = found_day events job (next_after last (pending_days events)) (next_pending events last) is.1 in
      let day : IsDay d.0.day = subst (λ (o : Option SiteDay). IfSome o HasDay) d.1 (next_day events last) in
      subst (λ (j : DayJob). IsDay j.day) (sym d.2) day

  abbrev AreHeld : Holdings → Type 0
  AreHeld xs = AllByRecursion (IsHeldInSteps fixed) xs

  left_as_found : (x : Holding (List Entry)) → x ≡ adding x.from [] → x.to ≡ x.from
  left_as_found x is = ap (λ (h : Holding (List Entry)). h.to) is ∙ append-nil x.from

  -- a look that had no memory
  held_still : (x : Holding (List Entry)) → x ≡ adding x.from [] → IsHeldInSteps fixed x
  held_still x is = λ old none same. ([], old, refl, All-nil IsCall, same ∙ sym (ap (history_of fixed) (left_as_found x is)), none)

  held_look : (last : Option (SiteNumber × ℤ)) (job : Option DayJob) (x : Holding (List Entry)) → IsLook fixed last job x → IsHeldInSteps fixed x
  held_look last job x is = λ old none same.
      let told = subst (λ (h : History). job ≡ option_map (job_at h.events) (next_after last (pending_days h.events))) (sym same) is.1 in (
        ALook last (Ok job) ∷ [],
        old,
        (old, (told, record { history = refl; claims = λ site day. refl }), refl),
        All-cons IsCall (ALook last (Ok job)) [] tt (All-nil IsCall),
        same ∙ sym (ap (history_of fixed) (left_as_found x is.0)),
        none,
      )

  publishes : (old : Registered) (from next : History) (job : DayJob) (outcome : Publish) → NoneOut old → old.history ≡ from
      → next ≡ go_on from (published_by outcome job) → Publishes old job outcome (at_history old next)
  publishes old from next job Published none same is =
      (is ∙ ap (λ (h : History). go_on h (publication (day_of job) ∷ [])) (sym same), λ site day. not_out _ _ (none site day))
  publishes old from next job Settled none same is = record { history = is ∙ go_on_none from ∙ sym same; claims = λ site day. refl }
  publishes old from next job (Superseded edit) none same is = record { history = is ∙ go_on_none from ∙ sym same; claims = λ site day. refl }
  publishes old from next job Foreign none same is = record { history = is ∙ go_on_none from ∙ sym same; claims = λ site day. refl }

  held_publication : (job : DayJob) (x : Holding (List Entry)) → IsDay job.day → IsPublication fixed job x → IsHeldInSteps fixed x
  held_publication job x day is = λ old none same.
      let from = history_of fixed x.from in
      let next = history_of fixed x.to in
      let outcome = outcome_at from.events job in
      let step = APublication job outcome in
      let goes : next ≡ go_on from (published_by outcome job) =
      ap (λ (h : Holding (List Entry)). history_of fixed h.to) is ∙ history_on fixed x.from (published_by outcome job) in (
        step ∷ [],
        at_history old next,
        (
          at_history old next,
          (day, ap (λ (h : History). outcome_at h.events job) (sym same), publishes old from next job outcome none same goes),
          refl,
        ),
        All-cons IsCall step [] tt (All-nil IsCall),
        refl,
        none,
      )

  held_turns : (n : ℕ) (xs : Holdings) → AreTurnsPartly fixed n xs → AreHeld xs
  held_turns zero xs are = subst AreHeld (sym are) tt
  held_turns (suc n) [] are = absurd are
  held_turns (suc n) (look ∷ []) are = (held_still look are, tt)
  held_turns (suc n) (look ∷ (p ∷ xs)) are =
      (held_look None (Some are.0) look are.1, (held_publication are.0 p (looked_day None are.0 look are.1) are.2, held_turns n xs are.3))

  held_settlement : (last : Option (SiteNumber × ℤ)) (xs : Holdings) → IsSettlementPartly fixed last xs → AreHeld xs
  held_settlement last [] is = absurd is
  held_settlement last (look ∷ []) is = (held_still look is, tt)
  held_settlement last (look ∷ (p ∷ xs)) is =
      (held_look last (Some is.0) look is.1, (held_publication is.0 p (looked_day last is.0 look is.1) is.2, held_settlement (looked_at is.0) xs is.3))

  held_at_once : (ask : Ask) (reply : List ℕ) (xs : Holdings) → IsAnsweredAtOnce fixed ask reply xs → AreHeld xs
  held_at_once ask reply xs is =
      let from = history_of fixed is.0 in
      let next = go_on from is.1 in
      let one : IsHeldInSteps fixed (adding is.0 is.1) = λ old none same.
      let s = in_steps old none ask reply next (subst (λ (h : History). alone.IsAnswered h ask reply next) (sym same) is.3) in
      (s.mine, at_history old next, s.over, s.calls, sym (history_on fixed is.0 is.1), none) in
      subst AreHeld (sym is.2) (one, tt)

  held_answer : (ask : Ask) (reply : List ℕ) (xs : Holdings) → IsAnswered fixed ask reply xs → AreHeld xs
  held_answer (asks.Turns zero) reply xs is = held_at_once (asks.Turns 0) reply xs is
  held_answer (asks.Turns (suc n)) reply xs (inl whole) = held_turns (suc n) xs (whole_turns fixed (suc n) xs whole.0)
  held_answer (asks.Turns (suc n)) reply xs (inr part) = held_turns (suc n) xs part.0
  held_answer asks.Settle reply xs (inl whole) = held_settlement None xs (whole_settlement fixed None xs whole.0)
  held_answer asks.Settle reply xs (inr part) = held_settlement None xs part.0
  held_answer (asks.Edit edit) reply xs is = held_at_once (asks.Edit edit) reply xs is
  held_answer (asks.Station site) reply xs is = held_at_once (asks.Station site) reply xs is
  held_answer (asks.DayOf site day) reply xs is = held_at_once (asks.DayOf site day) reply xs is
  held_answer (asks.SheetOf site day) reply xs is = held_at_once (asks.SheetOf site day) reply xs is
  held_answer (asks.Daily site from to) reply xs is = held_at_once (asks.Daily site from to) reply xs is
  held_answer (asks.Measurement site number) reply xs is = held_at_once (asks.Measurement site number) reply xs is
  held_answer (asks.EditOf number) reply xs is = held_at_once (asks.EditOf number) reply xs is
  held_answer asks.Counts reply xs is = held_at_once asks.Counts reply xs is

  held_on : (xs ys : Holdings) → AreHeld xs → AreHeld ys → AreHeld (xs ++ ys)
  held_on [] ys first rest = rest
  held_on (x ∷ xs) ys first rest = (first.0, held_on xs ys first.1 rest)

  -- the holdings of a reply are the first of those to come
  record Holds (coming : Holdings) (reply : List ℕ) (rest : Holdings) : Type 0 where
    mine : Holdings
    splits : coming ≡ mine ++ rest
    held : AreHeld mine

  reply_holds : (coming rest : Holdings) (message : Message) (reply : List ℕ) → IsReplied (Uses fixed) coming message reply rest → Holds coming reply rest
  reply_holds coming rest message reply is =
      of_replied (Uses fixed) Holds
      (λ xs ys ask told uses. record { mine = uses.0; splits = uses.1; held = held_answer ask told uses.0 uses.2 })
      (λ xs ys told plain same. record { mine = []; splits = sym same; held = tt })
      coming rest message reply is

  pub all_held : (coming : Holdings) (ms : List Message) (rs : List (List ℕ)) → AreReplies (Uses fixed) coming ms rs [] → AreHeld coming
  all_held coming [] [] is = subst AreHeld is tt
  all_held coming [] (r ∷ rs) is = absurd is
  all_held coming (m ∷ ms) [] is = absurd is
  all_held coming (m ∷ ms) (r ∷ rs) is =
      let one = reply_holds coming is.0 m r is.1 in
      subst AreHeld (sym one.splits) (held_on one.mine is.0 one.held (all_held is.0 ms rs is.2))
