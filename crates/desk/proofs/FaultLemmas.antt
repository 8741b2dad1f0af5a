-- Each reply of the status 503 is that to an edit which a fault of the journal refused, and each such edit has one.
use Rattle.std.specs.Prelude.{◌≡◌, ◌⊎◌, ℕ, ◌+◌, Bool, true, false, cond, List, [], ◌∷◌, ◌++◌, map, count_by, Option, Some, None, Result, Ok, Err}
use Rattle.std.specs.Fmt.{digits}
use Rattle.std.proofs.Common.{refl, ap, ◌∙◌, inl, inr, arith}
use Rattle.std.proofs.lemmas.List.Sums.{sum_by-cons}
use Rattle.approval.specs.declared.status.Status.{Status}
use Rattle.edits.specs.declared.content.Edit.{Edit}
use Rattle.desk.specs.Replies.{AreReplies, Fails, IsAnswered, IsLeftBy, accepted_edit_reply, day_reply, departure_reply, edit_reply, fault_reply, history_after, history_by, measurement_reply, reply_to, sheet_reply, station_reply, table_reply, tells_fault}
use Rattle.desk.specs.Replying.{IsAnsweredBy, IsReplied, IsTold, memory_reply}
use Rattle.shared_office.proofs.PassageLemmas.{Publishes}
use Rattle.desk.proofs.TurnLemmas.{publishes_turns}
use Rattle.history.specs.After.{after_edit, after_fault, publication, reopen}
use Rattle.history.specs.Awaited.{DayAnswer, pending_days}
use Rattle.history.specs.Awaited as days
use Rattle.history.specs.Events.{Event, Accepted, Faulted, History}
use Rattle.history.specs.Sheets.{Shown}
use Rattle.history.specs.Sheets as shown
use Rattle.history.specs.Verdicts.{Verdict, Repeats, Refuses, Accepts, record_of, verdict}
use Rattle.http_api.specs.Asks.{Question, ask_of}
use Rattle.http_api.specs.Replies.{bytes_of}
use Rattle.http_api.specs.Tables.{Row}
use Rattle.http_api.specs.declared.asks.Ask.{Ask}
use Rattle.http_api.specs.declared.asks.Ask.TheVariants as asks
use Rattle.http_api.specs.declared.asks.Denied.{Denied}
use Rattle.http_api.specs.declared.asks.Denied.TheVariants as denials
use Rattle.http_api.specs.declared.replies.Reply.TheVariants as replies
use Rattle.measurements.specs.declared.departures.Departure.{Departure}
use Rattle.records.specs.Sheets.{Record}
use Rattle.records.specs.declared.formats.Format.{Format}
use Rattle.office.proofs.CountLemmas.{fault_count-append, none_accepted, none_published, one_accepted, one_faulted}
use Rattle.office.proofs.RefusedLemmas.{not_a_fault}
use Rattle.office.specs.Counting.{fault_count}
use Rattle.office_inputs.specs.declared.limits.Limits.{Limits}
use Rattle.office_inputs.specs.declared.refusals.Refusal.{Refusal}
use Rattle.office_inputs.specs.declared.refusals.Refusal.TheVariants as refusals
use Rattle.station_inputs.specs.Stations.{StationState}
use Rattle.wire.specs.declared.messages.Message.{Message}
use Rattle.wire.specs.declared.messages.Message.TheVariants as messages
use Rattle.wire.specs.declared.messages.Verb.TheVariants as verbs

-- the replies that tell no fault
plain_refused : (refusal : Refusal) → ((in_doubt : Bool) → refusal ≡ refusals.JournalFault in_doubt → ⊥)
    → tells_fault (bytes_of (replies.Refused refusal)) ≡ false
unfolding bytes_of digits
plain_refused (refusals.RefReused number) none = refl
plain_refused refusals.NoStation none = refl
plain_refused refusals.StationExists none = refl
plain_refused (refusals.Limit which) none = refl
plain_refused refusals.NoRating none = refl
plain_refused refusals.RatingExists none = refl
plain_refused (refusals.PeriodOverlap from) none = refl
plain_refused refusals.NoEntry none = refl
plain_refused (refusals.NotInReview day) none = refl
plain_refused (refusals.SamePerson day) none = refl
plain_refused (refusals.Awaits day number) none = refl
plain_refused (refusals.NotApproved day) none = refl
plain_refused (refusals.AlreadyApproved day) none = refl
plain_refused (refusals.Locked day) none = refl
plain_refused (refusals.HistoryFull full) none = refl
plain_refused refusals.NoComments none = refl
plain_refused refusals.JournalFull none = refl
plain_refused refusals.NoMemory none = refl
plain_refused (refusals.JournalFault in_doubt) none = absurd (none in_doubt refl)

plain_denied : (denied : Denied) → tells_fault (bytes_of (replies.Denied denied)) ≡ false
unfolding bytes_of digits
plain_denied denials.NoRoute = refl
plain_denied (denials.NotAllowed verbs.Get) = refl
plain_denied (denials.NotAllowed verbs.Post) = refl
plain_denied (denials.NotAllowed verbs.Other) = refl
plain_denied denials.Json = refl
plain_denied (denials.Body which) = refl
plain_denied (denials.Rdb fault) = refl
plain_denied denials.NoMemory = refl

pub plain_memory : tells_fault memory_reply ≡ false
unfolding bytes_of digits
plain_memory = refl

plain_no_length : tells_fault (bytes_of replies.NoLength) ≡ false
unfolding bytes_of digits
plain_no_length = refl

plain_too_large : tells_fault (bytes_of replies.TooLarge) ≡ false
unfolding bytes_of digits
plain_too_large = refl

plain_edit : (h : History) (edit : Edit) (said : Verdict) (number : ℕ) → verdict h edit ≡ said → tells_fault (edit_reply said number) ≡ false
unfolding bytes_of digits
plain_edit h edit (Repeats earlier) number is = refl
plain_edit h edit (Refuses refusal) number is = plain_refused refusal (λ in_doubt. not_a_fault h edit refusal in_doubt is)
plain_edit h edit Accepts number is = refl

plain_station : (station : Option StationState) → tells_fault (station_reply station) ≡ false
unfolding bytes_of digits
plain_station None = refl
plain_station (Some station) = refl

plain_day : (status : Status) (answer : DayAnswer) → tells_fault (day_reply status answer) ≡ false
unfolding bytes_of digits
plain_day status days.NoStation = refl
plain_day status (days.Pending edit) = refl
plain_day status (days.Computed value) = refl

plain_sheet : (sheet : Shown) → tells_fault (sheet_reply sheet) ≡ false
unfolding bytes_of digits
plain_sheet shown.NoStation = refl
plain_sheet (shown.Pending edit) = refl
plain_sheet (shown.Text text) = refl

plain_table : (kept : Bool) (rows : List Row) → tells_fault (table_reply kept rows) ≡ false
unfolding bytes_of digits
plain_table true rows = refl
plain_table false rows = refl

plain_departure : (departure : Option Departure) → tells_fault (departure_reply departure) ≡ false
unfolding bytes_of digits
plain_departure None = refl
plain_departure (Some departure) = refl

plain_measurement : (number : ℕ) (station : Option StationState) → tells_fault (measurement_reply number station) ≡ false
unfolding bytes_of digits
plain_measurement number None = refl
plain_measurement number (Some station) = plain_departure _

plain_accepted_edit : (edit : Option Edit) → tells_fault (accepted_edit_reply edit) ≡ false
unfolding bytes_of digits
plain_accepted_edit None = refl
plain_accepted_edit (Some edit) = refl

pub plain_turned : (pending published : ℕ) → tells_fault (bytes_of (replies.Turned pending published)) ≡ false
unfolding bytes_of digits
plain_turned pending published = refl

plain_counts : (edits pending : ℕ) → tells_fault (bytes_of (replies.Counts edits pending)) ≡ false
unfolding bytes_of digits
plain_counts edits pending = refl

-- and the one that does
fault_told : (in_doubt : Bool) → tells_fault (fault_reply in_doubt) ≡ true
unfolding bytes_of digits
fault_told in_doubt = refl

-- the office's own reply tells none
plain_own : (h : History) (ask : Ask) → tells_fault (reply_to h ask) ≡ false
plain_own h (asks.Edit edit) = plain_edit h edit (verdict h edit) _ refl
plain_own h (asks.Station site) = plain_station _
plain_own h (asks.DayOf site day) = plain_day _ _
plain_own h (asks.SheetOf site day) = plain_sheet _
plain_own h (asks.Daily site from to) = plain_table _ _
plain_own h (asks.Measurement site number) = plain_measurement number _
plain_own h (asks.EditOf number) = plain_accepted_edit _
plain_own h (asks.Turns count) = plain_turned _ _
plain_own h asks.Settle = plain_turned _ _
plain_own h asks.Counts = plain_counts _ _

-- publications and accepted edits add no fault
published_none : (h next : History) → Publishes h next → fault_count next.events ≡ fault_count h.events
published_none h next publishes =
    let whole : fault_count next.events ≡ fault_count h.events + fault_count (map publication publishes.days) =
    ap (λ (x : History). fault_count x.events) publishes.after_is ∙ fault_count-append h.events (map publication publishes.days) in
    omega (arith, whole, none_published publishes.days)

pub edit_adds_none : (h : History) (edit : Edit) → fault_count (after_edit h edit).events ≡ fault_count h.events
edit_adds_none h edit =
    let whole = fault_count-append h.events (Accepted (record_of h edit) ∷ []) in
    omega (arith, whole, one_accepted (record_of h edit))

accepted_none : (said : Verdict) (h : History) (edit : Edit) → fault_count (history_by said h edit).events ≡ fault_count h.events
accepted_none (Repeats earlier) h edit = refl
accepted_none (Refuses refusal) h edit = refl
accepted_none Accepts h edit = edit_adds_none h edit

-- and a fault is one more
pub fault_adds_one : (h : History) (left : Option Record) → fault_count (after_fault h left).events ≡ fault_count h.events + 1
fault_adds_one h left =
    let whole = fault_count-append h.events (Faulted left ∷ []) in
    omega (arith, whole, one_faulted left)

own_none : (h : History) (ask : Ask) → fault_count (history_after h ask).events ≡ fault_count h.events
own_none h (asks.Edit edit) = accepted_none (verdict h edit) h edit
own_none h (asks.Station site) = refl
own_none h (asks.DayOf site day) = refl
own_none h (asks.SheetOf site day) = refl
own_none h (asks.Daily site from to) = refl
own_none h (asks.Measurement site number) = refl
own_none h (asks.EditOf number) = refl
own_none h (asks.Turns count) = published_none h _ (publishes_turns count h)
own_none h asks.Settle = published_none h _ (record { days = pending_days h.events; after_is = refl })
own_none h asks.Counts = refl

left_none : (h : History) (ask : Ask) (next : History) → IsLeftBy h ask next → fault_count next.events ≡ fault_count h.events
left_none h (asks.Edit edit) next left = ap (λ (x : History). fault_count x.events) left
left_none h (asks.Station site) next left = ap (λ (x : History). fault_count x.events) left
left_none h (asks.DayOf site day) next left = ap (λ (x : History). fault_count x.events) left
left_none h (asks.SheetOf site day) next left = ap (λ (x : History). fault_count x.events) left
left_none h (asks.Daily site from to) next left = ap (λ (x : History). fault_count x.events) left
left_none h (asks.Measurement site number) next left = ap (λ (x : History). fault_count x.events) left
left_none h (asks.EditOf number) next left = ap (λ (x : History). fault_count x.events) left
left_none h (asks.Turns count) next left =
    ap (λ (x : History). fault_count x.events) left.2 ∙ published_none h _ (publishes_turns left.0 h)
left_none h asks.Settle next left = published_none h next (record { days = _; after_is = left.2 })
left_none h asks.Counts next left = ap (λ (x : History). fault_count x.events) left

module _ (tells : List ℕ → Bool) where
  -- what a text counts for
  pub counts_for : List ℕ → ℕ
  counts_for text = cond (tells text) 1 0

  pub counts_none : (text : List ℕ) → tells text ≡ false → counts_for text ≡ 0
  unfolding counts_for
  counts_none text none = ap (λ (told : Bool). cond told 1 0) none

  pub counts_first : (text : List ℕ) (texts : List (List ℕ)) → count_by tells (text ∷ texts) ≡ counts_for text + count_by tells texts
  unfolding counts_for
  counts_first text texts = sum_by-cons (λ (t : List ℕ). cond (tells t) 1 0) text texts

  -- a text tells as many faults as have happened
  pub Tells : History → List ℕ → History → Type 0
  Tells h text next = fault_count next.events ≡ fault_count h.events + counts_for text

  -- one that tells none, and one that tells one
  pub tells_none : (h next : History) (text : List ℕ) → tells text ≡ false → fault_count next.events ≡ fault_count h.events → Tells h text next
  unfolding Tells counts_for
  tells_none h next text none same = let zero_more = counts_none text none in omega (arith, same, zero_more)

  pub tells_one : (h next : History) (left : Option Record) (text : List ℕ) → tells text ≡ true → next ≡ after_fault h left → Tells h text next
  unfolding Tells counts_for
  tells_one h next left text told is =
      let one_more : counts_for text ≡ 1 = ap (λ (told : Bool). cond told 1 0) told in
      let one : fault_count next.events ≡ fault_count h.events + 1 = ap (λ (x : History). fault_count x.events) is ∙ fault_adds_one h left in
      omega (arith, one, one_more)

  pub faults_told : (h : History) (text : List ℕ) (next : History) → Tells h text next → fault_count next.events ≡ fault_count h.events + counts_for text
  unfolding Tells
  faults_told h text next told = told

  -- no text, and a text before others
  pub none_told : (h after : History) → after ≡ h → fault_count after.events ≡ fault_count h.events + count_by tells []
  none_told h after is =
      let none : count_by tells [] ≡ 0 = refl in
      let same = ap (λ (x : History). fault_count x.events) is in
      omega (arith, none, same)

  pub more_told : (h mid after : History) (text : List ℕ) (texts : List (List ℕ)) → Tells h text mid
      → fault_count after.events ≡ fault_count mid.events + count_by tells texts → fault_count after.events ≡ fault_count h.events + count_by tells (text ∷ texts)
  unfolding Tells counts_for
  more_told h mid after text texts first rest =
      let split = counts_first text texts in
      omega (arith, first, rest, split)

abbrev pub TellsFault : History → List ℕ → History → Type 0
TellsFault = Tells tells_fault

plain_as : (h next : History) (due reply : List ℕ) → tells_fault due ≡ false → reply ≡ due → fault_count next.events ≡ fault_count h.events → TellsFault h reply next
plain_as h next due reply none is same = tells_none tells_fault h next reply (ap tells_fault is ∙ none) same

failed : (h : History) (ask : Ask) (reply : List ℕ) (next : History) → Fails h ask reply next → TellsFault h reply next
failed h (asks.Edit edit) reply next fails =
    tells_one tells_fault h next fails.2.left reply (ap tells_fault fails.1 ∙ fault_told fails.0) fails.2.faulted
failed h (asks.Station site) reply next fails = absurd fails
failed h (asks.DayOf site day) reply next fails = absurd fails
failed h (asks.SheetOf site day) reply next fails = absurd fails
failed h (asks.Daily site from to) reply next fails = absurd fails
failed h (asks.Measurement site number) reply next fails = absurd fails
failed h (asks.EditOf number) reply next fails = absurd fails
failed h (asks.Turns count) reply next fails = absurd fails
failed h asks.Settle reply next fails = absurd fails
failed h asks.Counts reply next fails = absurd fails

pub answered : (h : History) (ask : Ask) (reply : List ℕ) (next : History) → IsAnswered h ask reply next → TellsFault h reply next
answered h ask reply next (inl due) =
    plain_as h next (reply_to h ask) reply (plain_own h ask) due.0 (ap (λ (x : History). fault_count x.events) due.1 ∙ own_none h ask)
answered h ask reply next (inr (inl fails)) = failed h ask reply next fails
answered h ask reply next (inr (inr none)) = plain_as h next memory_reply reply plain_memory none.0 (left_none h ask next none.1)

due_plain : (due reply : List ℕ) → tells_fault due ≡ false → (reply ≡ due) ⊎ (reply ≡ memory_reply) → tells_fault reply ≡ false
due_plain due reply none (inl is) = ap tells_fault is ∙ none
due_plain due reply none (inr is) = ap tells_fault is ∙ plain_memory

-- What holds of each answer holds of each reply to a message, where it holds of replies that tell no fault while nothing is asked.
module _ {X : Type 0} (Answers : X → Ask → List ℕ → X → Type 0) (Holds : X → List ℕ → X → Type 0)
    (by_answer : (x y : X) (ask : Ask) (reply : List ℕ) → Answers x ask reply y → Holds x reply y)
    (unasked : (x y : X) (reply : List ℕ) → tells_fault reply ≡ false → y ≡ x → Holds x reply y) where
  of_asked : (x y : X) (asked : Result Question Denied) (reply : List ℕ) → IsAnsweredBy Answers x asked reply y → Holds x reply y
  of_asked x y (Ok asked) reply is = by_answer x y is.0 reply is.2
  of_asked x y (Err denied) reply is = unasked x y reply (ap tells_fault is.0 ∙ plain_denied denied) is.1

  of_forgone : (x y : X) (reply : List ℕ) → (reply ≡ memory_reply) × (y ≡ x) → Holds x reply y
  of_forgone x y reply none = unasked x y reply (ap tells_fault none.0 ∙ plain_memory) none.1

  of_requested : (x y : X) (asked : Result Question Denied) (reply : List ℕ) → IsAnsweredBy Answers x asked reply y ⊎ ((reply ≡ memory_reply) × (y ≡ x))
      → Holds x reply y
  of_requested x y asked reply (inl is) = of_asked x y asked reply is
  of_requested x y asked reply (inr none) = of_forgone x y reply none

  of_told : (x y : X) (due reply : List ℕ) → tells_fault due ≡ false → IsTold Answers x due reply y → Holds x reply y
  of_told x y due reply none is = unasked x y reply (due_plain due reply none is.0) is.1

  pub of_replied : (x y : X) (message : Message) (reply : List ℕ) → IsReplied Answers x message reply y → Holds x reply y
  of_replied x y (messages.Request verb target body) reply is = of_requested x y (ask_of verb target body) reply is
  of_replied x y messages.NoLength reply is = of_told x y (bytes_of replies.NoLength) reply plain_no_length is
  of_replied x y messages.TooLarge reply is = of_told x y (bytes_of replies.TooLarge) reply plain_too_large is
  of_replied x y messages.NoMemory reply is = of_forgone x y reply is
  of_replied x y messages.End reply is = absurd is
  of_replied x y (messages.Malformed at) reply is = absurd is
  of_replied x y messages.Long reply is = absurd is
  of_replied x y messages.Failed reply is = absurd is

replied : (h next : History) (message : Message) (reply : List ℕ) → IsReplied IsAnswered h message reply next → TellsFault h reply next
replied h next message reply is =
    of_replied IsAnswered TellsFault (λ from to ask told answers. answered from ask told to answers)
    (λ from to told none same. tells_none tells_fault from to told none (ap (λ (x : History). fault_count x.events) same)) h next message reply is

pub all_told : (h : History) (ms : List Message) (rs : List (List ℕ)) (after : History) → AreReplies h ms rs after
    → fault_count after.events ≡ fault_count h.events + count_by tells_fault rs
all_told h [] [] after is = none_told tells_fault h after is
all_told h [] (r ∷ rs) after is = absurd is
all_told h (m ∷ ms) [] after is = absurd is
all_told h (m ∷ ms) (r ∷ rs) after is =
    more_told tells_fault h is.0 after r rs (replied h is.0 m r is.1) (all_told is.0 ms rs after is.2)

-- no fault is among the edits that were found
pub count_reopened : (pieces : List Record) (since : List Event) → fault_count (map Accepted pieces ++ since) ≡ fault_count since
count_reopened [] since = refl
count_reopened (piece ∷ pieces) since = count_reopened pieces since

pub all_opened : (limits : Limits) (format : Format) (pieces : List Record) (ms : List Message) (rs : List (List ℕ)) (after : History)
    → AreReplies (reopen limits format pieces) ms rs after → fault_count after.events ≡ count_by tells_fault rs
all_opened limits format pieces ms rs after is =
    let whole = all_told (reopen limits format pieces) ms rs after is in
    omega (arith, whole, none_accepted pieces)
