-- The replies: of each the status, the method that it allows, and the body, which is compact JSON with its members in
-- rising order of their names.
use Rattle.std.specs.Prelude.{ℕ, Bool, List, [], ◌∷◌, ◌++◌, map, codes, decimal, Option, Some, None}
use Rattle.wire.specs.ReplyHead.{reply_bytes}
use Rattle.wire.specs.declared.messages.Verb.{Verb}
use Rattle.wire.specs.declared.replies.Kind.{Kind}
use Rattle.wire.specs.declared.replies.Kind.TheVariants.{Csv, Json, Plain}
use Rattle.http_api.specs.AcceptedEdits.{accepted_edit_text}
use Rattle.http_api.specs.Days.{day_text}
use Rattle.http_api.specs.Departures.{departure_text}
use Rattle.http_api.specs.Failures.{FailureRow, failure_of, failure_text}
use Rattle.http_api.specs.JsonTexts.{bool_text}
use Rattle.http_api.specs.Stations.{station_text}
use Rattle.http_api.specs.Tables.{row_of, table_text}
use Rattle.http_api.specs.declared.replies.Reply.{Reply}
use Rattle.http_api.specs.declared.replies.Reply.TheVariants.{Edit, Turned, Counts, Station, Day, Daily, Sheet, SheetPending, Measurement, EditOf, NoStation, NoMeasurement, NoEdit, Denied, Refused, NoLength, TooLarge, Malformed, NoMemory}

-- an accepted edit
abbrev pub edit_text : ℕ → Bool → List ℕ
edit_text number repeated =
    codes "{\"edit\":" ++ decimal number ++ codes ",\"repeated\":" ++ bool_text repeated ++ codes "}"

-- turns: the days that are pending after them, and how many were published
abbrev pub turned_text : ℕ → ℕ → List ℕ
turned_text pending published =
    codes "{\"pending\":" ++ decimal pending ++ codes ",\"published\":" ++ decimal published ++ codes "}"

-- how many edits were accepted, and how many days are pending
abbrev pub counts_text : ℕ → ℕ → List ℕ
counts_text edits pending = codes "{\"edits\":" ++ decimal edits ++ codes ",\"pending\":" ++ decimal pending ++ codes "}"

-- the line for a sheet of a day that awaits an edit
abbrev pub pending_line : ℕ → List ℕ
pending_line edit = codes "PENDING " ++ decimal edit ++ 10 ∷ []

-- the body of an answer; a failure is none
abbrev pub answer_text : Reply → List ℕ
answer_text (Edit number repeated) = edit_text number repeated
answer_text (Turned pending published) = turned_text pending published
answer_text (Counts edits pending) = counts_text edits pending
answer_text (Station station) = station_text station.now.station
answer_text (Day day) = day_text day
answer_text (Daily days) = table_text (map row_of days.now)
answer_text (Sheet text) = text.now
answer_text (SheetPending edit) = pending_line edit
answer_text (Measurement departure) = departure_text departure
answer_text (EditOf edit) = accepted_edit_text edit.now
answer_text NoStation = []
answer_text NoMeasurement = []
answer_text NoEdit = []
answer_text (Denied denied) = []
answer_text (Refused refusal) = []
answer_text NoLength = []
answer_text TooLarge = []
answer_text Malformed = []
answer_text NoMemory = []

-- the status: that of the failure, or 200
abbrev pub status_by : Option FailureRow → ℕ
status_by None = 200
status_by (Some failure) = failure.status

abbrev pub status_of : Reply → ℕ
status_of reply = status_by (failure_of reply)

-- the method that is allowed, where another one was used
abbrev pub allow_by : Option FailureRow → Option Verb
allow_by None = None
allow_by (Some failure) = failure.allow

abbrev pub allow_of : Reply → Option Verb
allow_of reply = allow_by (failure_of reply)

-- the body: that of the failure, or of the answer
abbrev pub body_by : Option FailureRow → List ℕ → List ℕ
body_by None answer = answer
body_by (Some failure) answer = failure_text failure

abbrev pub body_of : Reply → List ℕ
body_of reply = body_by (failure_of reply) (answer_text reply)

-- the type of the body: a daily table is comma-separated lines, a sheet is text, and every other body JSON
abbrev pub kind_of : Reply → Kind
kind_of (Daily days) = Csv
kind_of (Sheet text) = Plain
kind_of (SheetPending edit) = Plain
kind_of (Edit number repeated) = Json
kind_of (Turned pending published) = Json
kind_of (Counts edits pending) = Json
kind_of (Station station) = Json
kind_of (Day day) = Json
kind_of (Measurement departure) = Json
kind_of (EditOf edit) = Json
kind_of NoStation = Json
kind_of NoMeasurement = Json
kind_of NoEdit = Json
kind_of (Denied denied) = Json
kind_of (Refused refusal) = Json
kind_of NoLength = Json
kind_of TooLarge = Json
kind_of Malformed = Json
kind_of NoMemory = Json

-- the whole reply, head and body
unfoldable pub bytes_of : Reply → List ℕ
bytes_of reply = reply_bytes (status_of reply) (kind_of reply) (allow_of reply) (body_of reply)
