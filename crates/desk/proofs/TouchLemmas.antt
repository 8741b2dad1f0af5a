-- Holdings that touch, one behind another, are what an office does that nobody else asks.
use Rattle.std.proofs.Common.{◌≡◌, ℕ, zero, suc, ◌-◌, ◌≤◌, true, cond, List, [], ◌∷◌, ◌++◌, length, take, Option, Some, None, Result, Ok, Err, ℤ, refl, sym, ap, ◌∙◌, subst, inl, inr, append-nil, arith}
use Rattle.std.specs.Prelude.{⊤, All, find, option_map, slice_get}
use Rattle.std.proofs.lemmas.List.Elements.{All-head}
use Rattle.desk.specs.Behind.{AreTurns, AreTurnsPartly, IsAnswered, IsAnsweredAtOnce, IsLook, IsPublication, IsSettlement, IsSettlementPartly, IsTurned, Touch, Uses, grown, looked_at}
use Rattle.desk.specs.Replies as alone
use Rattle.desk.specs.Replies.{turned_reply}
use Rattle.desk.specs.Replying.{AreReplies, IsAnsweredBy, IsReplied, IsTold}
use Rattle.desk.proofs.GrowthLemmas.{Holdings, AllGrow, all_grow, grown_by, settlement_adds, turns_add}
use Rattle.desk.proofs.DayByDayLemmas.{whole_settlement, whole_turns}
use Rattle.shared_office.proofs.PassageLemmas.{go_on_none, published_on}
use Rattle.desk.proofs.PendingOrderLemmas.{Comes, in_order}
use Rattle.desk.proofs.RepliesLemmas.{replies_by_part}
use Rattle.desk.proofs.TurnLemmas.{turns_end}
use Rattle.fixed_units.specs.Quantities.{SiteNumber}
use Rattle.history.specs.After.{after_publication, after_publications, after_settlement, after_turn, after_turns, go_on, next_day, publication}
use Rattle.history.specs.Awaited.{SiteDay, pending_days}
use Rattle.history.specs.Events.{Event, History}
use Rattle.http_api.specs.Asks.{Question, ask_of}
use Rattle.http_api.specs.Replies.{bytes_of}
use Rattle.http_api.specs.declared.asks.Ask.{Ask}
use Rattle.http_api.specs.declared.asks.Ask.TheVariants as asks
use Rattle.http_api.specs.declared.asks.Denied.{Denied}
use Rattle.http_api.specs.declared.replies.Reply.TheVariants as replies
use Rattle.recompute.specs.Jobs.{DayJob}
use Rattle.recompute.specs.declared.jobs.Publish.{Publish}
use Rattle.register.specs.Asked.{comes_after, job_at, next_after, outcome_at}
use Rattle.register.proofs.LimitLemmas.{left_behind}
use Rattle.register.proofs.TurnLemmas.{pending_published}
use Rattle.rising.proofs.Selecting.{AllPairs-head}
use Rattle.std.specs.List.{AllPairs}
use Rattle.shared_office.specs.Entries.{events_in, history_of, with_events}
use Rattle.shared_office.specs.Finding.{published_by}
use Rattle.shared_office.specs.Holdings.{Holding, last_of}
use Rattle.shared_office.specs.Passing.{adding}
use Rattle.shared_office.specs.declared.entries.Entry.{Entry}
use Rattle.shared_office.specs.declared.entries.Fixed.{Fixed}
use Rattle.shared_office.proofs.GivenLemmas.{found_day, next_pending}
use Rattle.shared_office.proofs.TaskLemmas.{history_on}
use Rattle.wire.specs.declared.messages.Message.{Message}
use Rattle.wire.specs.declared.messages.Message.TheVariants as messages

-- holdings in front, and those behind
touch_parts : (from : List Entry) (xs ys : Holdings) (to : List Entry) → Touch from (xs ++ ys) to
    → (mid : List Entry) × Touch from xs mid × Touch mid ys to
touch_parts from [] ys to t = (from, refl, t)
touch_parts from (x ∷ xs) ys to t = let r = touch_parts x.to xs ys to t.1 in (r.0, (t.0, r.1), r.2)

-- what the last one left is what they left
last_left : (from : List Entry) (xs : Holdings) (to : List Entry) (last : Holding (List Entry)) → last_of xs ≡ Some last → Touch from xs to → to ≡ last.to
last_left from [] to last is t = absurd (cc)
last_left from (x ∷ []) to last is t = let same : x ≡ last = cc in t.1 ∙ ap (λ (h : Holding (List Entry)). h.to) same
last_left from (x ∷ (y ∷ xs)) to last is t = last_left x.to (y ∷ xs) to last is t.1

-- where all pending days come after the last one that was found, the next one is the first
abbrev AreBehind : Option (SiteNumber × ℤ) → List SiteDay → Type 0
AreBehind None days = ⊤
AreBehind (Some last) days = All (λ (d : SiteDay). comes_after last.0 last.1 d ≡ true) days

next_is_first : (last : Option (SiteNumber × ℤ)) (days : List SiteDay) → AreBehind last days → next_after last days ≡ slice_get days 0
next_is_first None days behind = refl
next_is_first (Some last) [] behind = refl
next_is_first (Some last) (d ∷ days) behind =
    ap (λ b. cond b (Some d) (find (comes_after last.0 last.1) days)) (All-head (λ (d : SiteDay). comes_after last.0 last.1 d ≡ true) d days behind)

first_and_rest : (days : List SiteDay) (d : SiteDay) → slice_get days 0 ≡ Some d → (rest : List SiteDay) × (days ≡ d ∷ rest)
first_and_rest [] d is = absurd (cc)
first_and_rest (e ∷ days) d is = let same : e ≡ d = cc in (days, ap (λ (x : SiteDay). x ∷ days) same)

no_first : (days : List SiteDay) → slice_get days 0 ≡ None → days ≡ []
no_first [] is = refl
no_first (d ∷ days) is = absurd (cc)

no_day : (events : List Event) (o : Option SiteDay) → None ≡ option_map (job_at events) o → o ≡ None
no_day events None is = refl
no_day events (Some d) is = absurd (cc)

module _ (fixed : Fixed) where
  abbrev days_at : List Entry → List SiteDay
  days_at list = pending_days (history_of fixed list).events

  left_as_found : (x : Holding (List Entry)) → x ≡ adding x.from [] → x.to ≡ x.from
  left_as_found x is = ap (λ (h : Holding (List Entry)). h.to) is ∙ append-nil x.from

  -- a look that found no day
  found_none : (last : Option (SiteNumber × ℤ)) (from : List Entry) (look : Holding (List Entry)) → AreBehind last (days_at from) → look.from ≡ from
      → IsLook fixed last None look → days_at from ≡ []
  found_none last from look behind begins is =
      no_first (days_at from)
      (sym (next_is_first last (days_at from) behind)
      ∙ no_day (events_in from) (next_after last (days_at from))
      (subst (λ (list : List Entry). None ≡ option_map (job_at (history_of fixed list).events) (next_after last (days_at list))) begins is.1))

  -- a day that was looked for, and its publication: the first of the pending ones was published, and the others are left
  record IsDone (from : List Entry) (job : DayJob) (to : List Entry) : Type 0 where
    day : SiteDay
    rest : List SiteDay
    days_are : days_at from ≡ day ∷ rest
    published : history_of fixed to ≡ after_publications (history_of fixed from) (day ∷ [])
    left : days_at to ≡ rest
    behind : AreBehind (looked_at job) (days_at to)

  day_done : (last : Option (SiteNumber × ℤ)) (from : List Entry) (look p : Holding (List Entry)) (job : DayJob) → AreBehind last (days_at from)
      → look.from ≡ from → p.from ≡ look.to → IsLook fixed last (Some job) look → IsPublication fixed job p → IsDone from job p.to
  day_done last from look p job behind begins touches looked publishes =
      let events = events_in from in
      let told : Some job ≡ option_map (job_at events) (next_after last (days_at from)) =
      subst (λ (list : List Entry). Some job ≡ option_map (job_at (history_of fixed list).events) (next_after last (days_at list))) begins looked.1 in
      let d = found_day events job (next_after last (days_at from)) (next_pending events last) told in
      let parts = first_and_rest (days_at from) d.0 (sym (next_is_first last (days_at from) behind) ∙ d.1) in
      let at : p.from ≡ from = touches ∙ left_as_found look looked.0 ∙ begins in
      let to : p.to ≡ with_events from (publication d.0 ∷ []) =
      ap (λ (h : Holding (List Entry)). h.to) publishes
      ∙ ap (λ (l : List Entry). with_events l (published_by (outcome_at (history_of fixed l).events job) job)) at
      ∙ ap (λ (j : DayJob). with_events from (published_by (outcome_at events j) j)) d.2
      ∙ ap (λ (o : Publish). with_events from (published_by o (job_at events d.0))) (pending_published events d.0 d.3) in
      let published : history_of fixed p.to ≡ after_publications (history_of fixed from) (d.0 ∷ []) =
      ap (history_of fixed) to ∙ history_on fixed from (publication d.0 ∷ []) in
      let left : days_at p.to ≡ parts.0 =
      ap (λ (h : History). pending_days h.events) published ∙ left_behind events (d.0 ∷ []) parts.0 parts.1 in
      let order : All (Comes d.0) parts.0 = AllPairs-head Comes d.0 parts.0 (subst (AllPairs Comes) parts.1 (in_order events)) in
      record {
        day = d.0;
        rest = parts.0;
        days_are = parts.1;
        published = published;
        left = left;
        behind =
            subst (λ (j : DayJob). AreBehind (looked_at j) (days_at p.to)) (sym d.2)
            (subst (λ (days : List SiteDay). AreBehind (Some (d.0.site, d.0.day)) days) (sym left) order);
      }

  -- turns
  turn_made : (from to : List Entry) (job : DayJob) → IsDone from job to → history_of fixed to ≡ after_turn (history_of fixed from)
  turn_made from to job done =
      done.published ∙ ap (after_publication (history_of fixed from)) (sym (ap (λ (days : List SiteDay). slice_get days 0) done.days_are))

  turns_made : (n : ℕ) (from : List Entry) (xs : Holdings) (to : List Entry) → AreTurns fixed n xs → Touch from xs to
      → history_of fixed to ≡ after_turns n (history_of fixed from)
  unfolding after_turns
  turns_made zero from xs to are t = ap (history_of fixed) (subst (λ (ys : Holdings). Touch from ys to) are t)
  turns_made (suc n) from [] to are t = absurd are
  turns_made (suc n) from (look ∷ []) to are t =
      let none : next_day (history_of fixed from) ≡ None = ap (λ (days : List SiteDay). slice_get days 0) (found_none None from look tt t.0 are) in
      ap (history_of fixed) (t.1 ∙ left_as_found look are.0 ∙ t.0) ∙ sym (turns_end (suc n) (history_of fixed from) none)
  turns_made (suc n) from (look ∷ (p ∷ xs)) to are t =
      turns_made n p.to xs to are.3 t.1.1
      ∙ ap (after_turns n) (turn_made from p.to are.0 (day_done None from look p are.0 tt t.0 t.1.0 are.1 are.2))

  turns_made_partly : (n : ℕ) (from : List Entry) (xs : Holdings) (to : List Entry) → AreTurnsPartly fixed n xs → Touch from xs to
      → (turns : ℕ) × (turns ≤ n) × (history_of fixed to ≡ after_turns turns (history_of fixed from))
  unfolding after_turns
  turns_made_partly zero from xs to are t = (0, omega arith, ap (history_of fixed) (subst (λ (ys : Holdings). Touch from ys to) are t))
  turns_made_partly (suc n) from [] to are t = absurd are
  turns_made_partly (suc n) from (look ∷ []) to are t = (0, omega arith, ap (history_of fixed) (t.1 ∙ left_as_found look are ∙ t.0))
  turns_made_partly (suc n) from (look ∷ (p ∷ xs)) to are t =
      let more = turns_made_partly n p.to xs to are.3 t.1.1 in (
        suc more.0,
        omega (arith, more.1),
        more.2 ∙ ap (after_turns more.0) (turn_made from p.to are.0 (day_done None from look p are.0 tt t.0 t.1.0 are.1 are.2)),
      )

  -- settlements
  module _ (from to : List Entry) (job : DayJob) (done : IsDone from job to) where
    published_before : (days : List SiteDay) → after_publications (history_of fixed to) days ≡ after_publications (history_of fixed from) (done.day ∷ days)
    published_before days =
        ap (λ (h : History). after_publications h days) done.published ∙ published_on (history_of fixed from) (done.day ∷ []) days

  settled : (last : Option (SiteNumber × ℤ)) (from : List Entry) (xs : Holdings) (to : List Entry) → IsSettlement fixed last xs → AreBehind last (days_at from)
      → Touch from xs to → history_of fixed to ≡ after_settlement (history_of fixed from)
  settled last from [] to is behind t = absurd is
  settled last from (look ∷ []) to is behind t =
      let h = history_of fixed from in
      ap (history_of fixed) (t.1 ∙ left_as_found look is.0 ∙ t.0)
      ∙ sym (ap (after_publications h) (found_none last from look behind t.0 is) ∙ go_on_none h)
  settled last from (look ∷ (p ∷ xs)) to is behind t =
      let h = history_of fixed from in
      let done = day_done last from look p is.0 behind t.0 t.1.0 is.1 is.2 in
      settled (looked_at is.0) p.to xs to is.3 done.behind t.1.1
      ∙ ap (after_publications (history_of fixed p.to)) done.left
      ∙ published_before from p.to is.0 done done.rest
      ∙ ap (after_publications h) (sym done.days_are)

  settled_partly : (last : Option (SiteNumber × ℤ)) (from : List Entry) (xs : Holdings) (to : List Entry) → IsSettlementPartly fixed last xs
      → AreBehind last (days_at from) → Touch from xs to
      → (count : ℕ) × (count ≤ length (days_at from)) × (history_of fixed to ≡ after_publications (history_of fixed from) (take count (days_at from)))
  settled_partly last from [] to is behind t = absurd is
  settled_partly last from (look ∷ []) to is behind t =
      (0, omega arith, ap (history_of fixed) (t.1 ∙ left_as_found look is ∙ t.0) ∙ sym (go_on_none (history_of fixed from)))
  settled_partly last from (look ∷ (p ∷ xs)) to is behind t =
      let h = history_of fixed from in
      let done = day_done last from look p is.0 behind t.0 t.1.0 is.1 is.2 in
      let more = settled_partly (looked_at is.0) p.to xs to is.3 done.behind t.1.1 in
      let whole = ap (λ (days : List SiteDay). length days) done.days_are in
      let rest = ap (λ (days : List SiteDay). length days) done.left in (
        suc more.0,
        omega (arith, more.1, whole, rest),
        more.2
            ∙ ap (λ (days : List SiteDay). after_publications (history_of fixed p.to) (take more.0 days)) done.left
            ∙ published_before from p.to is.0 done (take more.0 done.rest)
            ∙ ap (λ (days : List SiteDay). after_publications h (take (suc more.0) days)) (sym done.days_are),
      )

  -- the reply
  turned_as : (from : List Entry) (xs : Holdings) (to : List Entry) (reply : List ℕ) → IsTurned fixed reply xs → AllGrow xs → Touch from xs to
      → reply ≡ turned_reply (history_of fixed from) (history_of fixed to)
  turned_as from xs to reply told grow t =
      let whole = grown_by from xs to grow t in
      let count : grown xs ≡ length (events_in to) - length (events_in from) = omega (arith, whole) in
      told.2
      ∙ ap (λ (list : List Entry). bytes_of (replies.Turned (length (days_at list)) (grown xs))) (sym (last_left from xs to told.0 told.1 t))
      ∙ ap (λ (n : ℕ). bytes_of (replies.Turned (length (days_at to)) n)) count

  -- an ask
  abbrev AnswersAlone : List Entry → Ask → List ℕ → List Entry → Type 0
  AnswersAlone from ask reply to = alone.IsAnswered (history_of fixed from) ask reply (history_of fixed to)

  at_once : (from : List Entry) (ask : Ask) (reply : List ℕ) (xs : Holdings) (to : List Entry) → IsAnsweredAtOnce fixed ask reply xs → Touch from xs to
      → AnswersAlone from ask reply to
  at_once from ask reply xs to is t =
      let one = subst (λ (ys : Holdings). Touch from ys to) is.2 t in
      subst (λ (h : History). alone.IsAnswered (history_of fixed from) ask reply h)
      (sym (ap (history_of fixed) one.1 ∙ history_on fixed is.0 is.1))
      (subst (λ (list : List Entry). alone.IsAnswered (history_of fixed list) ask reply (go_on (history_of fixed is.0) is.1)) one.0 is.3)

  turns_answered : (n : ℕ) (from : List Entry) (reply : List ℕ) (xs : Holdings) (to : List Entry) → IsAnswered fixed (asks.Turns (suc n)) reply xs
      → Touch from xs to → AnswersAlone from (asks.Turns (suc n)) reply to
  turns_answered n from reply xs to (inl whole) t =
      let is = turns_made (suc n) from xs to whole.0 t in
      let grow = all_grow xs (turns_add fixed (suc n) xs (whole_turns fixed (suc n) xs whole.0)) in
      inl (turned_as from xs to reply whole.1 grow t ∙ ap (turned_reply (history_of fixed from)) is, is)
  turns_answered n from reply xs to (inr part) t = inr (inr (part.1, turns_made_partly (suc n) from xs to part.0 t))

  settlement_answered : (from : List Entry) (reply : List ℕ) (xs : Holdings) (to : List Entry) → IsAnswered fixed asks.Settle reply xs
      → Touch from xs to → AnswersAlone from asks.Settle reply to
  settlement_answered from reply xs to (inl whole) t =
      let is = settled None from xs to whole.0 tt t in
      let grow = all_grow xs (settlement_adds fixed None xs (whole_settlement fixed None xs whole.0)) in
      inl (turned_as from xs to reply whole.1 grow t ∙ ap (turned_reply (history_of fixed from)) is, is)
  settlement_answered from reply xs to (inr part) t = inr (inr (part.1, settled_partly None from xs to part.0 tt t))

  answered_alone : (from : List Entry) (ask : Ask) (reply : List ℕ) (xs : Holdings) (to : List Entry) → IsAnswered fixed ask reply xs → Touch from xs to
      → AnswersAlone from ask reply to
  answered_alone from (asks.Turns zero) reply xs to is t = at_once from (asks.Turns 0) reply xs to is t
  answered_alone from (asks.Turns (suc n)) reply xs to is t = turns_answered n from reply xs to is t
  answered_alone from asks.Settle reply xs to is t = settlement_answered from reply xs to is t
  answered_alone from (asks.Edit edit) reply xs to is t = at_once from (asks.Edit edit) reply xs to is t
  answered_alone from (asks.Station site) reply xs to is t = at_once from (asks.Station site) reply xs to is t
  answered_alone from (asks.DayOf site day) reply xs to is t = at_once from (asks.DayOf site day) reply xs to is t
  answered_alone from (asks.SheetOf site day) reply xs to is t = at_once from (asks.SheetOf site day) reply xs to is t
  answered_alone from (asks.Daily site first last) reply xs to is t = at_once from (asks.Daily site first last) reply xs to is t
  answered_alone from (asks.Measurement site number) reply xs to is t = at_once from (asks.Measurement site number) reply xs to is t
  answered_alone from (asks.EditOf number) reply xs to is t = at_once from (asks.EditOf number) reply xs to is t
  answered_alone from asks.Counts reply xs to is t = at_once from asks.Counts reply xs to is t

  -- messages
  module _ (to : List Entry) where
    -- what was found out in the first of the holdings holds of a list from which the others touch
    record Mid (rest : Holdings) (R : List Entry → Type 0) : Type 0 where
      mid : List Entry
      is : R mid
      touch : Touch mid rest to

    unasked : (from : List Entry) (coming rest : Holdings) (R : List Entry → Type 0) → rest ≡ coming → R from → Touch from coming to → Mid rest R
    unasked from coming rest R same is t = record { mid = from; is = is; touch = subst (λ (xs : Holdings). Touch from xs to) (sym same) t }

    asked : (from : List Entry) (coming rest : Holdings) (a : Result Question Denied) (reply : List ℕ) → IsAnsweredBy (Uses fixed) coming a reply rest
        → Touch from coming to → Mid rest (λ mid. IsAnsweredBy AnswersAlone from a reply mid)
    asked from coming rest (Err denied) reply is t = unasked from coming rest _ is.1 (is.0, refl) t
    asked from coming rest (Ok question) reply is t =
        let uses = is.2 in
        let parts = touch_parts from uses.0 rest to (subst (λ (xs : Holdings). Touch from xs to) uses.1 t) in
        record { mid = parts.0; is = (is.0, is.1, answered_alone from is.0 reply uses.0 parts.0 uses.2 parts.1); touch = parts.2 }

    told : (from : List Entry) (coming rest : Holdings) (due reply : List ℕ) → IsTold (Uses fixed) coming due reply rest → Touch from coming to
        → Mid rest (λ mid. IsTold AnswersAlone from due reply mid)
    told from coming rest due reply is t = unasked from coming rest _ is.1 (is.0, refl) t

    replied : (from : List Entry) (coming rest : Holdings) (message : Message) (reply : List ℕ) → IsReplied (Uses fixed) coming message reply rest
        → Touch from coming to → Mid rest (λ mid. IsReplied AnswersAlone from message reply mid)
    replied from coming rest (messages.Request verb target body) reply (inl is) t =
        let r = asked from coming rest (ask_of verb target body) reply is t in record { mid = r.mid; is = inl r.is; touch = r.touch }
    replied from coming rest (messages.Request verb target body) reply (inr is) t = unasked from coming rest _ is.1 (inr (is.0, refl)) t
    replied from coming rest messages.NoLength reply is t = told from coming rest _ reply is t
    replied from coming rest messages.TooLarge reply is t = told from coming rest _ reply is t
    replied from coming rest messages.NoMemory reply is t = unasked from coming rest _ is.1 (is.0, refl) t
    replied from coming rest messages.End reply is t = absurd is
    replied from coming rest (messages.Malformed at) reply is t = absurd is
    replied from coming rest messages.Long reply is t = absurd is
    replied from coming rest messages.Failed reply is t = absurd is

    followed : (from : List Entry) (coming : Holdings) (ms : List Message) (rs : List (List ℕ)) → AreReplies (Uses fixed) coming ms rs [] → Touch from coming to
        → AreReplies AnswersAlone from ms rs to
    followed from coming [] [] is t = subst (λ (xs : Holdings). Touch from xs to) (sym is) t
    followed from coming [] (r ∷ rs) is t = absurd is
    followed from coming (m ∷ ms) [] is t = absurd is
    followed from coming (m ∷ ms) (r ∷ rs) is t =
        let one = replied from coming is.0 m r is.1 t in
        (one.mid, one.is, followed one.mid is.0 ms rs is.2 one.touch)

  pub of_one_thread : (from : List Entry) (xs : Holdings) (to : List Entry) (ms : List Message) (rs : List (List ℕ)) → Touch from xs to
      → AreReplies (Uses fixed) xs ms rs [] → alone.AreReplies (history_of fixed from) ms rs (history_of fixed to)
  of_one_thread from xs to ms rs t is =
      replies_by_part (history_of fixed) AnswersAlone alone.IsAnswered (λ x y ask reply answers. answers) from to ms rs (followed to from xs ms rs is t)
