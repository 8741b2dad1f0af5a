-- What is replied to a message, and what has happened then.
use Rattle.std.specs.Prelude.{◌≡◌, ◌≢◌, ◌⊎◌, ℕ, ◌+◌, ◌-◌, ◌≤◌, Bool, true, false, List, [], ◌∷◌, ◌++◌, length, take, bytes_eq, Option, Some, None, is_some, ℤ}
use Rattle.std.specs.List.{flat_map}
use Rattle.approval.specs.declared.status.Status.{Status}
use Rattle.depend.specs.Compared.{days_within}
use Rattle.desk.specs.Replying.{memory_reply}
use Rattle.desk.specs.Replying as replying
use Rattle.edits.specs.declared.content.Edit.{Edit}
use Rattle.fixed_units.specs.Quantities.{SiteNumber}
use Rattle.history.specs.Accepted.{accepted, edit_numbered, stations_at}
use Rattle.history.specs.After.{after_edit, after_publications, after_settlement, after_turns}
use Rattle.history.specs.Awaited.{DayAnswer, answer_at, pending_days}
use Rattle.history.specs.Awaited as days
use Rattle.history.specs.Events.{Event, History}
use Rattle.history.specs.Sheets.{Shown, shown_at}
use Rattle.history.specs.Sheets as shown
use Rattle.history.specs.Statuses.{status_at}
use Rattle.history.specs.Verdicts.{Verdict, Repeats, Refuses, Accepts, verdict}
use Rattle.http_api.specs.AcceptedEdits.{accepted_edit_text}
use Rattle.http_api.specs.Days.{answer_members, status_member, value_members}
use Rattle.http_api.specs.Replies.{bytes_of, status_by}
use Rattle.http_api.specs.Stations.{station_text}
use Rattle.http_api.specs.Tables.{Row, pending_row, table_text, value_row}
use Rattle.http_api.specs.declared.asks.Ask.{Ask}
use Rattle.http_api.specs.declared.asks.Ask.TheVariants as asks
use Rattle.http_api.specs.declared.days.DayAnswer.TheVariants as told
use Rattle.http_api.specs.declared.replies.Reply.TheVariants as replies
use Rattle.measurements.specs.Departures.{departure_of}
use Rattle.measurements.specs.declared.departures.Departure.{Departure}
use Rattle.office.specs.Edits.{IsFaulted}
use Rattle.office_inputs.specs.Stations.{station_of}
use Rattle.station_inputs.specs.Stations.{StationState}
use Rattle.office_inputs.specs.declared.refusals.Refusal.TheVariants.{JournalFault}
use Rattle.wire.specs.ReplyHead.{reply_bytes, status_line}
use Rattle.wire.specs.declared.messages.Message.{Message}
use Rattle.wire.specs.declared.replies.Kind.TheVariants.{Csv, Json, Plain}

-- an answer of this body
abbrev pub answer_bytes : List ℕ → List ℕ
answer_bytes body = reply_bytes (status_by None) Json None body

-- the reply to an edit by its verdict, where it would be accepted under this number
abbrev pub edit_reply : Verdict → ℕ → List ℕ
edit_reply (Repeats earlier) number = bytes_of (replies.Edit earlier true)
edit_reply (Refuses refusal) number = bytes_of (replies.Refused refusal)
edit_reply Accepts number = bytes_of (replies.Edit number false)

-- what has happened once an edit was answered
abbrev pub history_by : Verdict → History → Edit → History
history_by (Repeats earlier) h edit = h
history_by (Refuses refusal) h edit = h
history_by Accepts h edit = after_edit h edit

-- the reply for a station, and for a day of this status
abbrev pub station_reply : Option StationState → List ℕ
station_reply None = bytes_of replies.NoStation
station_reply (Some station) = answer_bytes (station_text station)

abbrev pub day_reply : Status → DayAnswer → List ℕ
day_reply status days.NoStation = bytes_of replies.NoStation
day_reply status (days.Pending edit) = answer_bytes (answer_members (told.Pending edit) ++ status_member status)
day_reply status (days.Computed value) = answer_bytes (value_members value ++ status_member status)

-- the row of a day of this status in a daily table, by what is answered for it: none where its site is not kept
abbrev pub day_row : ℤ → Status → DayAnswer → List Row
day_row day status days.NoStation = []
day_row day status (days.Pending edit) = pending_row day edit status ∷ []
day_row day status (days.Computed value) = value_row day value status ∷ []

abbrev pub row_at : List Event → SiteNumber → ℤ → List Row
row_at events site day = day_row day (status_at events site day) (answer_at events site day)

-- the reply for the daily table of a site: a row of each day from one day to another, both included
abbrev pub table_reply : Bool → List Row → List ℕ
table_reply false rows = bytes_of replies.NoStation
table_reply true rows = reply_bytes (status_by None) Csv None (table_text rows)

abbrev pub daily_reply : List Event → SiteNumber → ℤ → ℤ → List ℕ
daily_reply events site from to =
    table_reply (is_some (station_of (stations_at events) site)) (flat_map (row_at events site) (days_within from to))

-- the reply for the sheet of a day
abbrev pub sheet_reply : Shown → List ℕ
sheet_reply shown.NoStation = bytes_of replies.NoStation
sheet_reply (shown.Pending edit) = bytes_of (replies.SheetPending edit)
sheet_reply (shown.Text text) = reply_bytes (status_by None) Plain None text

-- the reply for a measurement of a station
abbrev pub departure_reply : Option Departure → List ℕ
departure_reply None = bytes_of replies.NoMeasurement
departure_reply (Some departure) = bytes_of (replies.Measurement departure)

abbrev pub measurement_reply : ℕ → Option StationState → List ℕ
measurement_reply number None = bytes_of replies.NoStation
measurement_reply number (Some station) = departure_reply (departure_of number station)

-- the reply for an accepted edit
abbrev pub accepted_edit_reply : Option Edit → List ℕ
accepted_edit_reply None = bytes_of replies.NoEdit
accepted_edit_reply (Some edit) = answer_bytes (accepted_edit_text edit)

-- the reply once days were published: how many are pending then, and how many publications there were, which is how many events more
-- the history has
abbrev pub turned_reply : History → History → List ℕ
turned_reply h after = bytes_of (replies.Turned (length (pending_days after.events)) (length after.events - length h.events))

-- what has happened once an ask was answered, where no disk failed and memory did not run out
abbrev pub history_after : History → Ask → History
history_after h (asks.Edit edit) = history_by (verdict h edit) h edit
history_after h (asks.Station site) = h
history_after h (asks.DayOf site day) = h
history_after h (asks.SheetOf site day) = h
history_after h (asks.Daily site from to) = h
history_after h (asks.Measurement site number) = h
history_after h (asks.EditOf number) = h
history_after h (asks.Turns count) = after_turns count h
history_after h asks.Settle = after_settlement h
history_after h asks.Counts = h

-- and the reply, whole
abbrev pub reply_to : History → Ask → List ℕ
reply_to h (asks.Edit edit) = edit_reply (verdict h edit) (length (accepted h.events) + 1)
reply_to h (asks.Station site) = station_reply (station_of (stations_at h.events) site)
reply_to h (asks.DayOf site day) = day_reply (status_at h.events site day) (answer_at h.events site day)
reply_to h (asks.SheetOf site day) = sheet_reply (shown_at h.events site day)
reply_to h (asks.Daily site from to) = daily_reply h.events site from to
reply_to h (asks.Measurement site number) = measurement_reply number (station_of (stations_at h.events) site)
reply_to h (asks.EditOf number) = accepted_edit_reply (edit_numbered h.events number)
reply_to h (asks.Turns count) = turned_reply h (after_turns count h)
reply_to h asks.Settle = turned_reply h (after_settlement h)
reply_to h asks.Counts = bytes_of (replies.Counts (length (accepted h.events)) (length (pending_days h.events)))

-- the reply of a journal that failed at an edit
abbrev pub fault_reply : Bool → List ℕ
fault_reply in_doubt = bytes_of (replies.Refused (JournalFault in_doubt))

-- the reply is neither that of want of memory nor that of a journal that failed
abbrev pub IsOwn : List ℕ → Type 0
IsOwn reply = (reply ≢ memory_reply) × ((in_doubt : Bool) → reply ≢ fault_reply in_doubt)

-- the reply has the status of a failed journal
abbrev pub tells_fault : List ℕ → Bool
tells_fault reply = bytes_eq (take (length (status_line 503)) reply) (status_line 503)

-- the journal failed at an edit that nothing else refused
abbrev pub Fails : History → Ask → List ℕ → History → Type 0
Fails h (asks.Edit edit) reply next = (in_doubt : Bool) × (reply ≡ fault_reply in_doubt) × IsFaulted h edit next in_doubt
Fails h (asks.Station site) reply next = ⊥
Fails h (asks.DayOf site day) reply next = ⊥
Fails h (asks.SheetOf site day) reply next = ⊥
Fails h (asks.Daily site from to) reply next = ⊥
Fails h (asks.Measurement site number) reply next = ⊥
Fails h (asks.EditOf number) reply next = ⊥
Fails h (asks.Turns count) reply next = ⊥
Fails h asks.Settle reply next = ⊥
Fails h asks.Counts reply next = ⊥

-- want of memory leaves the history, but that some of the days were published that were to be
abbrev pub IsLeftBy : History → Ask → History → Type 0
IsLeftBy h (asks.Edit edit) next = next ≡ h
IsLeftBy h (asks.Station site) next = next ≡ h
IsLeftBy h (asks.DayOf site day) next = next ≡ h
IsLeftBy h (asks.SheetOf site day) next = next ≡ h
IsLeftBy h (asks.Daily site from to) next = next ≡ h
IsLeftBy h (asks.Measurement site number) next = next ≡ h
IsLeftBy h (asks.EditOf number) next = next ≡ h
IsLeftBy h (asks.Turns count) next = (turns : ℕ) × (turns ≤ count) × (next ≡ after_turns turns h)
IsLeftBy h asks.Settle next = (count : ℕ) × (count ≤ length (pending_days h.events)) × (next ≡ after_publications h (take count (pending_days h.events)))
IsLeftBy h asks.Counts next = next ≡ h

-- The reply to an ask, and what has happened then: the office's, or that of a journal that failed, or that of want of memory.
abbrev pub IsAnswered : History → Ask → List ℕ → History → Type 0
IsAnswered h ask reply next =
    ((reply ≡ reply_to h ask) × (next ≡ history_after h ask))
    ⊎ (Fails h ask reply next ⊎ ((reply ≡ memory_reply) × IsLeftBy h ask next))

-- the replies of an office that nobody else asks, one to each message in order, and what has happened behind them
abbrev pub AreReplies : History → List Message → List (List ℕ) → History → Type 0
AreReplies h messages replies after = replying.AreReplies IsAnswered h messages replies after
